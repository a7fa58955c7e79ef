use Rattle.std.proofs.Common.{pos, arith, rules}
use Rattle.sqlite.specs.Held.{Held, state}
use Rattle.sqlite.specs.State.{HasCleanDisk, Executes, CommitsBy, Survives}
use Rattle.sqlite_ledger.specs.AtRest.{IsAtRest}
use Rattle.sqlite_ledger.proofs.InsertStates.{IsSettled}
use Rattle.sqlite_ledger.proofs.AnswerLemmas.{answer_text, answer_params}
use Rattle.sqlite_ledger.proofs.AnswerStates.{safe, remains, schema, adds_one}
use Rattle.sqlite_ledger.proofs.answers.adding.insert_answer.Goals as goal

pub returns-clause-recorded : goal.returns-clause-recorded
returns-clause-recorded g c clean has =
    let old = state g.S.Store c.args.conn.now in
    let mid = state g.S.Store c.prepare.new.self in
    let new = state g.S.Store c.execute.new.conn in
    let settled : (h : Held _) → IsSettled (state g.S.Store h) = λ h. record {
      settled = λ o db
          left. g.met.S.Store.settled h.store db o left;
      stays = λ o. g.met.S.Store.stays h.store o;
    }
    in
    let early : HasCleanDisk mid = omega (arith, c.execute.ensures.survives.clean) in
    let same = c.in_ok-insert.ensures.ok early in
    let rest : IsAtRest old = search rules in
    let ran : Executes answer_text (answer_params (pos c.args.number) c.args.answer.now) mid new
    c.execute.result = rw (
      same.0,
      c.to_sql.ensures,
      c.to_sql-2.ensures,
      c.to_sql-3.ensures,
      c.second_of.ensures,
      c.as_slice.ensures,
      c.as_slice-2.ensures,
      c.from.ensures,
    ) at (c.execute.ensures.runs clean) in
    safe (pos c.args.number) c.args.answer.now old mid new has rest same.1 c.execute.result ran
    (settled c.execute.new.conn)

pub returns-clause-remains_recorded : goal.returns-clause-remains_recorded
returns-clause-remains_recorded g c clean has other was =
    let old = state g.S.Store c.args.conn.now in
    let mid = state g.S.Store c.prepare.new.self in
    let new = state g.S.Store c.execute.new.conn in
    let settled : (h : Held _) → IsSettled (state g.S.Store h) = λ h. record {
      settled = λ o db
          left. g.met.S.Store.settled h.store db o left;
      stays = λ o. g.met.S.Store.stays h.store o;
    }
    in
    let early : HasCleanDisk mid = omega (arith, c.execute.ensures.survives.clean) in
    let same = c.in_ok-insert.ensures.ok early in
    let rest : IsAtRest old = search rules in
    let survives : Survives mid new (CommitsBy answer_text (answer_params (pos c.args.number)
    c.args.answer.now) mid) = rw (
      same.0,
      c.to_sql.ensures,
      c.to_sql-2.ensures,
      c.to_sql-3.ensures,
      c.second_of.ensures,
      c.as_slice.ensures,
      c.as_slice-2.ensures,
      c.from.ensures,
    ) at c.execute.ensures.survives in
    remains (pos c.args.number) c.args.answer.now old mid new has rest same.1 (settled
    c.args.conn.now) clean c.prepare.ensures.survives survives other was

pub returns-clause-schema : goal.returns-clause-schema
returns-clause-schema g c clean has =
    let old = state g.S.Store c.args.conn.now in
    let mid = state g.S.Store c.prepare.new.self in
    let new = state g.S.Store c.execute.new.conn in
    let early : HasCleanDisk mid = omega (arith, c.execute.ensures.survives.clean) in
    let same = c.in_ok-insert.ensures.ok early in
    let rest : IsAtRest old = search rules in
    let ran : Executes answer_text (answer_params (pos c.args.number) c.args.answer.now) mid new
    c.execute.result = rw (
      same.0,
      c.to_sql.ensures,
      c.to_sql-2.ensures,
      c.to_sql-3.ensures,
      c.second_of.ensures,
      c.as_slice.ensures,
      c.as_slice-2.ensures,
      c.from.ensures,
    ) at (c.execute.ensures.runs clean) in
    schema (pos c.args.number) c.args.answer.now old mid new has rest same.1 c.execute.result ran

pub returns-clause-added : goal.returns-clause-added
returns-clause-added g c clean has =
    let old = state g.S.Store c.args.conn.now in
    let mid = state g.S.Store c.prepare.new.self in
    let new = state g.S.Store c.execute.new.conn in
    let early : HasCleanDisk mid = omega (arith, c.execute.ensures.survives.clean) in
    let same = c.in_ok-insert.ensures.ok early in
    let rest : IsAtRest old = search rules in
    let ran : Executes answer_text (answer_params (pos c.args.number) c.args.answer.now) mid new
    c.execute.result = rw (
      same.0,
      c.to_sql.ensures,
      c.to_sql-2.ensures,
      c.to_sql-3.ensures,
      c.second_of.ensures,
      c.as_slice.ensures,
      c.as_slice-2.ensures,
      c.from.ensures,
    ) at (c.execute.ensures.runs clean) in
    adds_one (pos c.args.number) c.args.answer.now old mid new has rest same.1 c.execute.result ran
