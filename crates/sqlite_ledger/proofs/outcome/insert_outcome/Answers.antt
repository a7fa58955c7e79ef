use Rattle.std.proofs.Common.{pos, to_z, of_z, w64, arith, rules}
use Rattle.sqlite.specs.Held.{Held, state}
use Rattle.sqlite.specs.declared.types.Value.TheVariants.{Int}
use Rattle.sqlite.specs.State.{HasCleanDisk, Executes, CommitsBy, Survives}
use Rattle.sqlite_ledger.specs.AtRest.{IsAtRest}
use Rattle.sqlite_ledger.proofs.InsertStates.{IsSettled}
use Rattle.sqlite_ledger.proofs.OutcomeLemmas.{outcome_text, outcome_params, bound_number}
use Rattle.sqlite_ledger.proofs.OutcomeStates.{safe, kept, remains, schema}
use Rattle.sqlite_ledger.proofs.outcome.insert_outcome.Goals as goal

pub returns-clause-recorded : goal.returns-clause-recorded
returns-clause-recorded g c clean has =
    let old = state g.S.Store c.args.conn.now in
    let mid = state g.S.Store c.prepare.new.self in
    let new = state g.S.Store c.execute.new.conn in
    let at = Int (to_z w64 (of_z w64 c.args.at)) in
    let settled : (h : Held _) → IsSettled (state g.S.Store h) = λ h. record {
      settled = λ o db
          left. g.met.S.Store.settled h.store db o left;
      stays = λ o. g.met.S.Store.stays h.store o;
    }
    in
    let early : HasCleanDisk mid = omega (arith, c.execute.ensures.survives.clean) in
    let same = c.in_ok-insert.ensures.ok early in
    let rest : IsAtRest old = search rules in
    let ran : Executes outcome_text (outcome_params (pos c.args.place) c.args.outcome at) mid new
    c.execute.result = rw (
      same.0,
      c.params-to_sql.ensures,
      c.params-to_sql-2.ensures,
      c.params-to_sql-3.ensures,
      c.params-to_sql-4.ensures,
      c.kind_of.ensures,
      c.number_of.ensures,
      bound_number c.args.outcome,
    ) at (c.execute.ensures.runs clean) in
    safe old mid new (pos c.args.place) c.args.outcome at has rest same.1 c.execute.result ran
    (settled c.execute.new.conn)

pub returns-clause-remains_marked : goal.returns-clause-remains_marked
returns-clause-remains_marked g c clean has other down =
    let old = state g.S.Store c.args.conn.now in
    let mid = state g.S.Store c.prepare.new.self in
    let new = state g.S.Store c.execute.new.conn in
    let at = Int (to_z w64 (of_z w64 c.args.at)) in
    let settled : (h : Held _) → IsSettled (state g.S.Store h) = λ h. record {
      settled = λ o db
          left. g.met.S.Store.settled h.store db o left;
      stays = λ o. g.met.S.Store.stays h.store o;
    }
    in
    let early : HasCleanDisk mid = omega (arith, c.execute.ensures.survives.clean) in
    let same = c.in_ok-insert.ensures.ok early in
    let rest : IsAtRest old = search rules in
    let survives : Survives mid new (CommitsBy outcome_text (outcome_params (pos c.args.place)
    c.args.outcome at) mid) = rw (
      same.0,
      c.params-to_sql.ensures,
      c.params-to_sql-2.ensures,
      c.params-to_sql-3.ensures,
      c.params-to_sql-4.ensures,
      c.kind_of.ensures,
      c.number_of.ensures,
      bound_number c.args.outcome,
    ) at c.execute.ensures.survives in
    kept old mid new (pos c.args.place) c.args.outcome at has rest same.1 (settled c.args.conn.now)
    clean c.prepare.ensures.survives survives other down

pub returns-clause-remains_safe : goal.returns-clause-remains_safe
returns-clause-remains_safe g c clean has other held safe =
    let old = state g.S.Store c.args.conn.now in
    let mid = state g.S.Store c.prepare.new.self in
    let new = state g.S.Store c.execute.new.conn in
    let at = Int (to_z w64 (of_z w64 c.args.at)) in
    let settled : (h : Held _) → IsSettled (state g.S.Store h) = λ h. record {
      settled = λ o db
          left. g.met.S.Store.settled h.store db o left;
      stays = λ o. g.met.S.Store.stays h.store o;
    }
    in
    let early : HasCleanDisk mid = omega (arith, c.execute.ensures.survives.clean) in
    let same = c.in_ok-insert.ensures.ok early in
    let rest : IsAtRest old = search rules in
    let survives : Survives mid new (CommitsBy outcome_text (outcome_params (pos c.args.place)
    c.args.outcome at) mid) = rw (
      same.0,
      c.params-to_sql.ensures,
      c.params-to_sql-2.ensures,
      c.params-to_sql-3.ensures,
      c.params-to_sql-4.ensures,
      c.kind_of.ensures,
      c.number_of.ensures,
      bound_number c.args.outcome,
    ) at c.execute.ensures.survives in
    remains old mid new (pos c.args.place) c.args.outcome at has rest same.1
    (settled c.args.conn.now) clean c.prepare.ensures.survives survives other held safe

pub returns-clause-schema : goal.returns-clause-schema
returns-clause-schema g c clean has =
    let old = state g.S.Store c.args.conn.now in
    let mid = state g.S.Store c.prepare.new.self in
    let new = state g.S.Store c.execute.new.conn in
    let at = Int (to_z w64 (of_z w64 c.args.at)) in
    let settled : (h : Held _) → IsSettled (state g.S.Store h) = λ h. record {
      settled = λ o db
          left. g.met.S.Store.settled h.store db o left;
      stays = λ o. g.met.S.Store.stays h.store o;
    }
    in
    let early : HasCleanDisk mid = omega (arith, c.execute.ensures.survives.clean) in
    let same = c.in_ok-insert.ensures.ok early in
    let rest : IsAtRest old = search rules in
    let ran : Executes outcome_text (outcome_params (pos c.args.place) c.args.outcome at) mid new
    c.execute.result = rw (
      same.0,
      c.params-to_sql.ensures,
      c.params-to_sql-2.ensures,
      c.params-to_sql-3.ensures,
      c.params-to_sql-4.ensures,
      c.kind_of.ensures,
      c.number_of.ensures,
      bound_number c.args.outcome,
    ) at (c.execute.ensures.runs clean) in
    schema old mid new (pos c.args.place) c.args.outcome at has rest same.1 c.execute.result ran
