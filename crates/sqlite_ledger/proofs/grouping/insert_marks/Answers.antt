use Rattle.std.proofs.Common.{List, ℕ, [], subst, sym}
use Rattle.std.proofs.lemmas.List.{take_all, take_more}
use Rattle.sqlite.specs.Held.{state}
use Rattle.sqlite_ledger.specs.Groups.{AddsGroup}
use Rattle.sqlite_ledger.proofs.GroupStates.{AddsSome, some_none, some_more, crash_more}
use Rattle.sqlite_ledger.proofs.grouping.insert_marks.Goals as goal

pub places-init : goal.places-init
places-init g c = some_none (state g.S.Store c.args.conn.now) c.args.second

pub places-preserved : goal.places-preserved
places-preserved g c =
    let old = state g.S.Store c.args.conn.now in
    let mid = state g.S.Store c.places.conn in
    let new = state g.S.Store c.insert_mark.new.conn in
    subst (λ (ms : List ℕ). AddsSome old new c.args.second ms [])
    (sym (take_more c.args.places.now c.places.place-index 0 c.places-test.true))
    (some_more old mid new c.args.second _ _ [] [] c.places.invariant c.insert_mark.ensures.clean
    c.in_ok-insert_mark.ensures.added c.insert_mark.ensures.crash)

pub returns-in_err-insert_mark-clause-clean : goal.returns-in_err-insert_mark-clause-clean
returns-in_err-insert_mark-clause-clean g c clean =
    c.places.invariant.clean (c.insert_mark.ensures.clean clean)

pub returns-in_err-insert_mark-clause-crash : goal.returns-in_err-insert_mark-clause-crash
returns-in_err-insert_mark-clause-crash g c =
    crash_more (state g.S.Store c.args.conn.now) (state g.S.Store c.places.conn)
    (state g.S.Store c.insert_mark.new.conn) c.args.second _ [] c.places.invariant
    c.insert_mark.ensures.clean c.insert_mark.ensures.crash

pub returns-clause-clean : goal.returns-clause-clean
returns-clause-clean g c = c.places.invariant.clean

pub returns-clause-added : goal.returns-clause-added
returns-clause-added g c clean inside =
    subst (λ (ms : List ℕ). AddsGroup (state g.S.Store c.args.conn.now)
    (state g.S.Store c.places.conn) c.args.second ms [])
    (take_all c.places.place-index c.args.places.now c.places-test.false)
    (c.places.invariant.added clean inside)

pub returns-clause-crash : goal.returns-clause-crash
returns-clause-crash g c = c.places.invariant.crash
