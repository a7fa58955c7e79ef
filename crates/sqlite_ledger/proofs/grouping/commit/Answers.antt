use Rattle.sqlite.specs.Held.{state}
use Rattle.sqlite_ledger.proofs.GroupStates.{commits, leaves_commit}
use Rattle.sqlite_ledger.proofs.grouping.commit.Goals as goal

pub returns-clause-committed : goal.returns-clause-committed
returns-clause-committed g c clean inside =
    commits (state g.S.Store c.args.conn.now) (state g.S.Store c.execute.new.self) c.execute.result
    inside (c.execute.ensures.runs clean)

pub returns-clause-crash : goal.returns-clause-crash
returns-clause-crash g c clean inside =
    leaves_commit (state g.S.Store c.args.conn.now) (state g.S.Store c.execute.new.self) inside
    clean c.execute.ensures.survives
