use Rattle.std.proofs.Common.{List, [], subst, sym}
use Rattle.std.proofs.lemmas.List.{take_all, take_more}
use Rattle.sqlite.specs.Held.{state}
use Rattle.campaign_ledger.specs.declared.book.PlaceOutcome.{PlaceOutcome}
use Rattle.sqlite_ledger.specs.Groups.{AddsGroup}
use Rattle.sqlite_ledger.proofs.GroupStates.{AddsSome, some_none, some_more, crash_more}
use Rattle.sqlite_ledger.proofs.grouping.insert_outcomes.Goals as goal

pub outcomes-init : goal.outcomes-init
outcomes-init g c = some_none (state g.S.Store c.args.conn.now) c.args.second

pub outcomes-preserved : goal.outcomes-preserved
outcomes-preserved g c =
    let old = state g.S.Store c.args.conn.now in
    let mid = state g.S.Store c.outcomes.conn in
    let new = state g.S.Store c.insert_ended.new.conn in
    subst (λ (es : List PlaceOutcome). AddsSome old new c.args.second [] es)
    (sym (take_more c.args.outcomes.now c.outcomes.ended-index _ c.outcomes-test.true))
    (some_more old mid new c.args.second [] [] _ _ c.outcomes.invariant
    c.insert_ended.ensures.clean c.in_ok-insert_ended.ensures.added c.insert_ended.ensures.crash)

pub returns-in_err-insert_ended-clause-clean : goal.returns-in_err-insert_ended-clause-clean
returns-in_err-insert_ended-clause-clean g c clean =
    c.outcomes.invariant.clean (c.insert_ended.ensures.clean clean)

pub returns-in_err-insert_ended-clause-crash : goal.returns-in_err-insert_ended-clause-crash
returns-in_err-insert_ended-clause-crash g c =
    crash_more (state g.S.Store c.args.conn.now) (state g.S.Store c.outcomes.conn)
    (state g.S.Store c.insert_ended.new.conn) c.args.second [] _ c.outcomes.invariant
    c.insert_ended.ensures.clean c.insert_ended.ensures.crash

pub returns-clause-clean : goal.returns-clause-clean
returns-clause-clean g c = c.outcomes.invariant.clean

pub returns-clause-added : goal.returns-clause-added
returns-clause-added g c clean inside =
    subst (λ (es : List PlaceOutcome). AddsGroup (state g.S.Store c.args.conn.now)
    (state g.S.Store c.outcomes.conn) c.args.second [] es)
    (take_all c.outcomes.ended-index c.args.outcomes.now c.outcomes-test.false)
    (c.outcomes.invariant.added clean inside)

pub returns-clause-crash : goal.returns-clause-crash
returns-clause-crash g c = c.outcomes.invariant.crash
