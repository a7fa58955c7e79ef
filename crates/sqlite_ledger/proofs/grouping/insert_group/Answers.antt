use Rattle.std.proofs.Common.{ap, ◌∙◌, rules}
use Rattle.sqlite.specs.Held.{Held, state}
use Rattle.sqlite.specs.Effect.{Database}
use Rattle.sqlite_ledger.specs.AtRest.{IsAtRest}
use Rattle.sqlite_ledger.proofs.InsertStates.{IsSettled}
use Rattle.sqlite_ledger.proofs.GroupStates.{from_start, group_durable, group_fresh}
use Rattle.sqlite_ledger.proofs.GroupStates.{group_recorded, group_timed, marks_remain}
use Rattle.sqlite_ledger.proofs.GroupStates.{outcomes_remain, twice}
use Rattle.sqlite_ledger.proofs.grouping.insert_group.Goals as goal

pub returns-in_err-begin-clause-remains_marked : goal.returns-in_err-begin-clause-remains_marked
returns-in_err-begin-clause-remains_marked g c clean has other marked db left =
    marked db (c.begin.ensures.crash clean has db left)

pub returns-in_err-insert_rows-clause-remains_marked
    : goal.returns-in_err-insert_rows-clause-remains_marked
returns-in_err-insert_rows-clause-remains_marked g c clean has other marked db left =
    let early = c.insert_rows.ensures.clean clean in
    marked db (c.begin.ensures.crash early has db (c.insert_rows.ensures.crash clean
    (c.in_ok-begin.ensures.begins early has).inside db left))

pub returns-in_err-commit-clause-remains_marked : goal.returns-in_err-commit-clause-remains_marked
returns-in_err-commit-clause-remains_marked g c clean has =
    let old = state g.S.Store c.args.conn.now in
    let begun = state g.S.Store c.begin.new.conn in
    let within = state g.S.Store c.insert_rows.new.conn in
    let new = state g.S.Store c.commit.new.conn in
    let settled : (h : Held _) → IsSettled (state g.S.Store h) = λ h. record {
      settled = λ o db left. g.met.S.Store.settled h.store db o left;
      stays = λ o. g.met.S.Store.stays h.store o;
    }
    in
    let late = c.commit.ensures.clean clean in
    let early = c.insert_rows.ensures.clean late in
    let starts = c.in_ok-begin.ensures.begins early has in
    let rows = c.in_ok-insert_rows.ensures.added late starts.inside in
    let adds = from_start old begun within _ _ _ starts rows in
    let rest : IsAtRest old = search rules in
    marks_remain old rest (settled c.args.conn.now) starts.was_open within _ _ _ adds new
    (twice old begun within (c.begin.ensures.crash early has)
    (c.insert_rows.ensures.crash late starts.inside))
    (c.commit.ensures.crash clean rows.inside)

pub returns-clause-remains_marked : goal.returns-clause-remains_marked
returns-clause-remains_marked g c clean has =
    let old = state g.S.Store c.args.conn.now in
    let begun = state g.S.Store c.begin.new.conn in
    let within = state g.S.Store c.insert_rows.new.conn in
    let new = state g.S.Store c.commit.new.conn in
    let settled : (h : Held _) → IsSettled (state g.S.Store h) = λ h. record {
      settled = λ o db left. g.met.S.Store.settled h.store db o left;
      stays = λ o. g.met.S.Store.stays h.store o;
    }
    in
    let late = c.commit.ensures.clean clean in
    let early = c.insert_rows.ensures.clean late in
    let starts = c.in_ok-begin.ensures.begins early has in
    let rows = c.in_ok-insert_rows.ensures.added late starts.inside in
    let adds = from_start old begun within _ _ _ starts rows in
    let rest : IsAtRest old = search rules in
    marks_remain old rest (settled c.args.conn.now) starts.was_open within _ _ _ adds new
    (twice old begun within (c.begin.ensures.crash early has)
    (c.insert_rows.ensures.crash late starts.inside))
    (c.commit.ensures.crash clean rows.inside)

pub returns-in_err-begin-clause-remains_safe : goal.returns-in_err-begin-clause-remains_safe
returns-in_err-begin-clause-remains_safe g c clean has other held safe db left =
    safe db (c.begin.ensures.crash clean has db left)

pub returns-in_err-insert_rows-clause-remains_safe
    : goal.returns-in_err-insert_rows-clause-remains_safe
returns-in_err-insert_rows-clause-remains_safe g c clean has other held safe db left =
    let early = c.insert_rows.ensures.clean clean in
    safe db (c.begin.ensures.crash early has db (c.insert_rows.ensures.crash clean
    (c.in_ok-begin.ensures.begins early has).inside db left))

pub returns-in_err-commit-clause-remains_safe : goal.returns-in_err-commit-clause-remains_safe
returns-in_err-commit-clause-remains_safe g c clean has =
    let old = state g.S.Store c.args.conn.now in
    let begun = state g.S.Store c.begin.new.conn in
    let within = state g.S.Store c.insert_rows.new.conn in
    let new = state g.S.Store c.commit.new.conn in
    let settled : (h : Held _) → IsSettled (state g.S.Store h) = λ h. record {
      settled = λ o db left. g.met.S.Store.settled h.store db o left;
      stays = λ o. g.met.S.Store.stays h.store o;
    }
    in
    let late = c.commit.ensures.clean clean in
    let early = c.insert_rows.ensures.clean late in
    let starts = c.in_ok-begin.ensures.begins early has in
    let rows = c.in_ok-insert_rows.ensures.added late starts.inside in
    let adds = from_start old begun within _ _ _ starts rows in
    let rest : IsAtRest old = search rules in
    outcomes_remain old rest (settled c.args.conn.now) starts.was_open within _ _ _ adds new
    (twice old begun within (c.begin.ensures.crash early has)
    (c.insert_rows.ensures.crash late starts.inside))
    (c.commit.ensures.crash clean rows.inside)

pub returns-clause-remains_safe : goal.returns-clause-remains_safe
returns-clause-remains_safe g c clean has =
    let old = state g.S.Store c.args.conn.now in
    let begun = state g.S.Store c.begin.new.conn in
    let within = state g.S.Store c.insert_rows.new.conn in
    let new = state g.S.Store c.commit.new.conn in
    let settled : (h : Held _) → IsSettled (state g.S.Store h) = λ h. record {
      settled = λ o db left. g.met.S.Store.settled h.store db o left;
      stays = λ o. g.met.S.Store.stays h.store o;
    }
    in
    let late = c.commit.ensures.clean clean in
    let early = c.insert_rows.ensures.clean late in
    let starts = c.in_ok-begin.ensures.begins early has in
    let rows = c.in_ok-insert_rows.ensures.added late starts.inside in
    let adds = from_start old begun within _ _ _ starts rows in
    let rest : IsAtRest old = search rules in
    outcomes_remain old rest (settled c.args.conn.now) starts.was_open within _ _ _ adds new
    (twice old begun within (c.begin.ensures.crash early has)
    (c.insert_rows.ensures.crash late starts.inside))
    (c.commit.ensures.crash clean rows.inside)

pub returns-clause-fresh : goal.returns-clause-fresh
returns-clause-fresh g c clean has =
    let old = state g.S.Store c.args.conn.now in
    let begun = state g.S.Store c.begin.new.conn in
    let within = state g.S.Store c.insert_rows.new.conn in
    let settled : (h : Held _) → IsSettled (state g.S.Store h) = λ h. record {
      settled = λ o db left. g.met.S.Store.settled h.store db o left;
      stays = λ o. g.met.S.Store.stays h.store o;
    }
    in
    let late = c.commit.ensures.clean clean in
    let early = c.insert_rows.ensures.clean late in
    let starts = c.in_ok-begin.ensures.begins early has in
    let rows = c.in_ok-insert_rows.ensures.added late starts.inside in
    let adds = from_start old begun within _ _ _ starts rows in
    let rest : IsAtRest old = search rules in
    group_fresh old rest (settled c.args.conn.now) starts.was_open within _ _ _ adds

pub returns-clause-durable : goal.returns-clause-durable
returns-clause-durable g c clean has =
    let begun = state g.S.Store c.begin.new.conn in
    let within = state g.S.Store c.insert_rows.new.conn in
    let new = state g.S.Store c.commit.new.conn in
    let settled : (h : Held _) → IsSettled (state g.S.Store h) = λ h. record {
      settled = λ o db left. g.met.S.Store.settled h.store db o left;
      stays = λ o. g.met.S.Store.stays h.store o;
    }
    in
    let late = c.commit.ensures.clean clean in
    let early = c.insert_rows.ensures.clean late in
    let rows = c.in_ok-insert_rows.ensures.added late
    (c.in_ok-begin.ensures.begins early has).inside in
    group_durable begun within new _ _ _ rows (c.in_ok-commit.ensures.committed clean rows.inside)
    (settled c.commit.new.conn)

pub returns-clause-recorded : goal.returns-clause-recorded
returns-clause-recorded g c clean has =
    let begun = state g.S.Store c.begin.new.conn in
    let within = state g.S.Store c.insert_rows.new.conn in
    let new = state g.S.Store c.commit.new.conn in
    let settled : (h : Held _) → IsSettled (state g.S.Store h) = λ h. record {
      settled = λ o db left. g.met.S.Store.settled h.store db o left;
      stays = λ o. g.met.S.Store.stays h.store o;
    }
    in
    let late = c.commit.ensures.clean clean in
    let early = c.insert_rows.ensures.clean late in
    let rows = c.in_ok-insert_rows.ensures.added late
    (c.in_ok-begin.ensures.begins early has).inside in
    group_recorded begun within new _ _ _ rows (c.in_ok-commit.ensures.committed clean rows.inside)
    (settled c.commit.new.conn)

pub returns-clause-timed : goal.returns-clause-timed
returns-clause-timed g c clean has =
    let begun = state g.S.Store c.begin.new.conn in
    let within = state g.S.Store c.insert_rows.new.conn in
    let new = state g.S.Store c.commit.new.conn in
    let settled : (h : Held _) → IsSettled (state g.S.Store h) = λ h. record {
      settled = λ o db left. g.met.S.Store.settled h.store db o left;
      stays = λ o. g.met.S.Store.stays h.store o;
    }
    in
    let late = c.commit.ensures.clean clean in
    let early = c.insert_rows.ensures.clean late in
    let rows = c.in_ok-insert_rows.ensures.added late
    (c.in_ok-begin.ensures.begins early has).inside in
    group_timed begun within new _ _ _ rows (c.in_ok-commit.ensures.committed clean rows.inside)
    (settled c.commit.new.conn) (g.C.SecondClock.gave c.insert_rows.new.clock)
    c.in_ok-insert_rows.ensures.gave

pub returns-clause-schema : goal.returns-clause-schema
returns-clause-schema g c clean has =
    let late = c.commit.ensures.clean clean in
    let early = c.insert_rows.ensures.clean late in
    let rows = c.in_ok-insert_rows.ensures.added late
    (c.in_ok-begin.ensures.begins early has).inside in
    ap (λ (d : Database). d.schema) (c.in_ok-commit.ensures.committed clean rows.inside).now_is
    ∙ rows.inside.schema
