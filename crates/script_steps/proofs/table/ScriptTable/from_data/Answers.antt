use Rattle.std.proofs.Common.{sym, ◌∙◌}
use Rattle.script_steps.proofs.Tables.{table_fits}
use Rattle.script_steps.proofs.table.ScriptTable.from_data.Goals as goal

pub invariant_of-result : goal.invariant_of-result
invariant_of-result c =
    table_fits c.in_ok-items.items.now tt c.in_ok-scripts.scripts (sym c.judge_scripts.ensures.exact
    ∙ c.in_ok-judge_scripts.was) c.in_ok-scripts.ensures.scripts c.in_ok-scripts.ensures.fit
