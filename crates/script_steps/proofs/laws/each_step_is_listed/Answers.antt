use Rattle.script_steps.proofs.Listed.{step_listed, step_in_table, step_named}
use Rattle.script_steps.proofs.laws.each_step_is_listed.Goals as goal

pub returns : goal.returns
returns c = record { listed = step_listed; in_table = step_in_table; named = step_named }
