use Rattle.script_steps.proofs.Again.{written_again}
use Rattle.script_steps.proofs.table.ScriptTable.to_data.Goals as goal

pub returns-clause-read_back : goal.returns-clause-read_back
returns-clause-read_back c =
    written_again c.write_scripts.result c.as_slice.result.now c.self.inside.scripts c.args.self.now
    c.self.invariant c.as_slice.ensures c.self.view_is c.write_scripts.ensures
