use Rattle.script_steps.proofs.InRange.{table_in_range}
use Rattle.script_steps.proofs.laws.read_table_is_in_range.Goals as goal

pub returns : goal.returns
returns c = table_in_range
