-- A value is not both greater and less than its threshold.
use Rattle.limiter_core.proofs.Meaning.{not_both_sides}
use Rattle.limiter_core.proofs.laws.one_side.Goals as goal

pub returns : goal.returns
returns c = not_both_sides
