use Rattle.std.proofs.Common.{pos}
use Rattle.sqlite.specs.Held.{state}
use Rattle.sqlite_ledger.proofs.GroupStates.{adds_outcome, no_more_outcome}
use Rattle.sqlite_ledger.proofs.OutcomeLemmas.{bound_number}
use Rattle.sqlite_ledger.proofs.grouping.insert_ended.Goals as goal

pub returns-clause-added : goal.returns-clause-added
returns-clause-added g c clean inside =
    adds_outcome (state g.S.Store c.args.conn.now) (state g.S.Store c.execute.new.self)
    c.args.place c.args.outcome c.args.second c.execute.result inside
    (rw (
      c.params-to_sql.ensures,
      c.params-to_sql-2.ensures,
      c.params-to_sql-3.ensures,
      c.params-to_sql-4.ensures,
      c.kind_of.ensures,
      c.number_of.ensures,
      bound_number c.args.outcome,
    ) at (c.execute.ensures.runs clean))

pub returns-clause-crash : goal.returns-clause-crash
returns-clause-crash g c clean inside =
    no_more_outcome (state g.S.Store c.args.conn.now) (state g.S.Store c.execute.new.self)
    (pos c.args.place) c.args.outcome c.args.second inside clean
    (rw (
      c.params-to_sql.ensures,
      c.params-to_sql-2.ensures,
      c.params-to_sql-3.ensures,
      c.params-to_sql-4.ensures,
      c.kind_of.ensures,
      c.number_of.ensures,
      bound_number c.args.outcome,
    ) at c.execute.ensures.survives)
