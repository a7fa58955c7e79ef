use Rattle.std.proofs.Common.{pos}
use Rattle.sqlite.specs.Held.{state}
use Rattle.sqlite_ledger.proofs.GroupStates.{adds_mark, no_more_mark}
use Rattle.sqlite_ledger.proofs.grouping.insert_mark.Goals as goal

pub returns-clause-added : goal.returns-clause-added
returns-clause-added g c clean inside =
    adds_mark (state g.S.Store c.args.conn.now) (state g.S.Store c.execute.new.self) c.args.place
    c.args.second c.execute.result inside
    (rw (c.params-to_sql.ensures, c.params-to_sql-2.ensures) at (c.execute.ensures.runs clean))

pub returns-clause-crash : goal.returns-clause-crash
returns-clause-crash g c clean inside =
    no_more_mark (state g.S.Store c.args.conn.now) (state g.S.Store c.execute.new.self)
    (pos c.args.place) c.args.second inside clean
    (rw (c.params-to_sql.ensures, c.params-to_sql-2.ensures) at c.execute.ensures.survives)
