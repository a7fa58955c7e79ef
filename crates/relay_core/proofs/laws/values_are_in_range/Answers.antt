use Rattle.relay_core.proofs.InRange.{value_in_range}
use Rattle.relay_core.proofs.laws.values_are_in_range.Goals as goal

pub returns : goal.returns
returns c = value_in_range
