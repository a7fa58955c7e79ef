use Rattle.sqlite.specs.Held.{state}
use Rattle.sqlite_ledger.proofs.GroupStates.{begins, no_more_begin}
use Rattle.sqlite_ledger.proofs.grouping.begin.Goals as goal

pub returns-clause-begins : goal.returns-clause-begins
returns-clause-begins g c clean has =
    begins (state g.S.Store c.args.conn.now) (state g.S.Store c.execute.new.self) c.execute.result
    has (c.execute.ensures.runs clean)

pub returns-clause-crash : goal.returns-clause-crash
returns-clause-crash g c clean has =
    no_more_begin (state g.S.Store c.args.conn.now) (state g.S.Store c.execute.new.self) has clean
    c.execute.ensures.survives
