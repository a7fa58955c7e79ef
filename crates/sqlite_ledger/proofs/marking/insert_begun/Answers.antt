use Rattle.std.proofs.Common.{◌≡◌, pos, [], IsTrue, ap, ◌∙◌, arith, rules}
use Rattle.sqlite.specs.Held.{Held, state}
use Rattle.sqlite.specs.State.{HasCleanDisk}
use Rattle.sqlite_ledger.specs.AtRest.{IsAtRest}
use Rattle.sqlite_ledger.proofs.InsertStates.{IsSettled}
use Rattle.sqlite.specs.Effect.{Database}
use Rattle.sqlite_ledger.specs.Schema.{ledger_schema}
use Rattle.sqlite_ledger.specs.Marks.{IsMarked}
use Rattle.sqlite_ledger.specs.Taken.{is_taken}
use Rattle.sqlite_ledger.proofs.MarkLemmas.{begun_text}
use Rattle.sqlite_ledger.proofs.InsertStates.{not_run_keeps, not_run_no_key}
use Rattle.sqlite_ledger.proofs.MarkStates.{durable, fresh, kept, remains, schema, taken}
use Rattle.sqlite_ledger.proofs.MarkStates.{was_marked}
use Rattle.sqlite_ledger.proofs.marking.insert_begun.Goals as goal

pub returns-clause-durable : goal.returns-clause-durable
returns-clause-durable g c clean has =
    let old = state g.S.Store c.args.conn.now in
    let mid = state g.S.Store c.prepare.new.self in
    let new = state g.S.Store c.execute.new.conn in
    let settled : (h : Held _) → IsSettled (state g.S.Store h) = λ h. record {
      settled = λ o db
          left. g.met.S.Store.settled h.store db o left;
      stays = λ o. g.met.S.Store.stays h.store o;
    }
    in
    let early : HasCleanDisk mid = omega (arith, c.execute.ensures.survives.clean) in
    let same = c.in_ok-insert.ensures.ok early in
    let rest : IsAtRest old = search rules in
    durable old mid new (pos c.args.place) _ has rest same.1 c.execute.result (rw (
      same.0,
      c.params-to_sql.ensures,
      c.params-to_sql-2.ensures,
    ) at (c.execute.ensures.runs clean))
    (settled c.execute.new.conn)

pub returns-clause-fresh : goal.returns-clause-fresh
returns-clause-fresh g c clean has =
    let old = state g.S.Store c.args.conn.now in
    let mid = state g.S.Store c.prepare.new.self in
    let new = state g.S.Store c.execute.new.conn in
    let settled : (h : Held _) → IsSettled (state g.S.Store h) = λ h. record {
      settled = λ o db
          left. g.met.S.Store.settled h.store db o left;
      stays = λ o. g.met.S.Store.stays h.store o;
    }
    in
    let early : HasCleanDisk mid = omega (arith, c.execute.ensures.survives.clean) in
    let same = c.in_ok-insert.ensures.ok early in
    let rest : IsAtRest old = search rules in
    fresh old mid new (pos c.args.place) _ has rest same.1 c.execute.result (rw (
      same.0,
      c.params-to_sql.ensures,
      c.params-to_sql-2.ensures,
    ) at (c.execute.ensures.runs clean))
    (settled c.args.conn.now)

pub returns-clause-remains_marked : goal.returns-clause-remains_marked
returns-clause-remains_marked g c clean has other down =
    let old = state g.S.Store c.args.conn.now in
    let mid = state g.S.Store c.prepare.new.self in
    let new = state g.S.Store c.execute.new.conn in
    let settled : (h : Held _) → IsSettled (state g.S.Store h) = λ h. record {
      settled = λ o db
          left. g.met.S.Store.settled h.store db o left;
      stays = λ o. g.met.S.Store.stays h.store o;
    }
    in
    let early : HasCleanDisk mid = omega (arith, c.execute.ensures.survives.clean) in
    let same = c.in_ok-insert.ensures.ok early in
    let rest : IsAtRest old = search rules in
    kept old mid new (pos c.args.place) _ has rest same.1 (settled c.args.conn.now) clean
    c.prepare.ensures.survives (rw (same.0, c.params-to_sql.ensures, c.params-to_sql-2.ensures)
    at c.execute.ensures.survives) other down

pub returns-clause-remains_safe : goal.returns-clause-remains_safe
returns-clause-remains_safe g c clean has other held safe =
    let old = state g.S.Store c.args.conn.now in
    let mid = state g.S.Store c.prepare.new.self in
    let new = state g.S.Store c.execute.new.conn in
    let settled : (h : Held _) → IsSettled (state g.S.Store h) = λ h. record {
      settled = λ o db
          left. g.met.S.Store.settled h.store db o left;
      stays = λ o. g.met.S.Store.stays h.store o;
    }
    in
    let early : HasCleanDisk mid = omega (arith, c.execute.ensures.survives.clean) in
    let same = c.in_ok-insert.ensures.ok early in
    let rest : IsAtRest old = search rules in
    remains old mid new (pos c.args.place) _ has rest same.1 (settled c.args.conn.now) clean
    c.prepare.ensures.survives (rw (same.0, c.params-to_sql.ensures, c.params-to_sql-2.ensures)
    at c.execute.ensures.survives) other held safe

pub returns-clause-schema : goal.returns-clause-schema
returns-clause-schema g c clean has =
    let old = state g.S.Store c.args.conn.now in
    let mid = state g.S.Store c.prepare.new.self in
    let new = state g.S.Store c.execute.new.conn in
    let early : HasCleanDisk mid = omega (arith, c.execute.ensures.survives.clean) in
    let same = c.in_ok-insert.ensures.ok early in
    let rest : IsAtRest old = search rules in
    schema old mid new (pos c.args.place) _ has rest same.1 c.execute.result (rw (
      same.0,
      c.params-to_sql.ensures,
      c.params-to_sql-2.ensures,
    ) at (c.execute.ensures.runs clean))

pub returns-clause-taken : goal.returns-clause-taken
returns-clause-taken g c clean has =
    let old = state g.S.Store c.args.conn.now in
    let mid = state g.S.Store c.prepare.new.self in
    let new = state g.S.Store c.execute.new.conn in
    let early : HasCleanDisk mid = omega (arith, c.execute.ensures.survives.clean) in
    let same = c.in_ok-insert.ensures.ok early in
    let rest : IsAtRest old = search rules in
    taken old mid new (pos c.args.place) _ has rest same.1 c.execute.result (rw (
      same.0,
      c.params-to_sql.ensures,
      c.params-to_sql-2.ensures,
    ) at (c.execute.ensures.runs clean))

pub returns-in_err-insert-clause-taken : goal.returns-in_err-insert-clause-taken
returns-in_err-insert-clause-taken g c clean has =
    let old = state g.S.Store c.args.conn.now in
    let mid = state g.S.Store c.prepare.new.self in
    let error = c.in_err-insert.field-0.0 in
    let kept : IsTrue (is_taken error) → c.prepare.new.self.schema ≡ ledger_schema =
    λ is. ap (λ (d : Database). d.schema) (not_run_keeps begun_text [] old mid error
    (c.in_err-insert.ensures.err clean []) is) ∙ has in
    search rules

pub returns-clause-was_marked : goal.returns-clause-was_marked
returns-clause-was_marked g c clean has =
    let old = state g.S.Store c.args.conn.now in
    let mid = state g.S.Store c.prepare.new.self in
    let new = state g.S.Store c.execute.new.conn in
    let settled : (h : Held _) → IsSettled (state g.S.Store h) = λ h. record {
      settled = λ o db
          left. g.met.S.Store.settled h.store db o left;
      stays = λ o. g.met.S.Store.stays h.store o;
    }
    in
    let early : HasCleanDisk mid = omega (arith, c.execute.ensures.survives.clean) in
    let same = c.in_ok-insert.ensures.ok early in
    let rest : IsAtRest old = search rules in
    was_marked old mid new (pos c.args.place) _ has rest same.1 c.execute.result (rw (
      same.0,
      c.params-to_sql.ensures,
      c.params-to_sql-2.ensures,
    ) at (c.execute.ensures.runs clean))
    (settled c.args.conn.now)

pub returns-in_err-insert-clause-was_marked : goal.returns-in_err-insert-clause-was_marked
returns-in_err-insert-clause-was_marked g c clean has =
    let old = state g.S.Store c.args.conn.now in
    let mid = state g.S.Store c.prepare.new.self in
    let error = c.in_err-insert.field-0.0 in
    let never : IsTrue (is_taken error) → IsMarked old.may_leave (pos c.args.place) =
    λ is. absurd (not_run_no_key begun_text [] old mid error
    (c.in_err-insert.ensures.err clean []) is) in
    search rules
