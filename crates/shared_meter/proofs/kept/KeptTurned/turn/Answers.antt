use Rattle.shared_meter.proofs.CallLemmas.{stands_on, has_still, none_on, none_same, some_on}
use Rattle.shared_meter.proofs.CallLemmas.{some_same}
use Rattle.shared_meter.proofs.kept.KeptTurned.turn.Goals as goal

pub invariant_of-self : goal.invariant_of-self
invariant_of-self c =
    let was = c.self.inside.recorder in
    let is = c.apply_and_note.new.recorder in
    let ensured = c.apply_and_note.ensures in
    let same = some_same _ _ _ _ _ _ c.in-Some.is ensured.err in
    has_still _ was is _ _ _ _ ensured.history
    (some_on _ was is _ _ _ _ c.in-Some.is ensured.noted) same.0 same.1 c.self.invariant

pub invariant_of-self-in-None : goal.invariant_of-self-in-None
invariant_of-self-in-None c =
    let was = c.self.inside.recorder in
    let is = c.apply.new.self in
    has_still _ was is _ _ _ _ c.apply.ensures.history (none_on _ was is _ _ c.in-None.is)
    c.apply.ensures.err (none_same _ _) c.self.invariant

pub returns-in-Some-clause-ok : goal.returns-in-Some-clause-ok
returns-in-Some-clause-ok c =
    let was = c.self.inside.recorder in
    let is = c.apply_and_note.new.recorder in
    rw (← c.self.view_is) (stands_on _ was is _ _ _ _ c.apply_and_note.ensures.history
    (some_on _ was is _ _ _ _ c.in-Some.is c.apply_and_note.ensures.noted))

pub returns-in-None-clause-ok : goal.returns-in-None-clause-ok
returns-in-None-clause-ok c =
    let was = c.self.inside.recorder in
    let is = c.apply.new.self in
    rw (← c.self.view_is) (stands_on _ was is _ _ _ _ c.apply.ensures.history
    (none_on _ was is _ _ c.in-None.is))
