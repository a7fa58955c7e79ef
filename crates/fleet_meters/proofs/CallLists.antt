-- Calls, followed by one more.
use Rattle.std.proofs.Common.{◌≡◌, ◌≢◌, ℕ, List, [], ◌∷◌, ◌++◌, Option, refl, sym, ◌∙◌, ap, subst}
use Rattle.std.proofs.Common.{append_assoc, append-nil}
use Rattle.relay_recorder.specs.Histories.{Exchange}
use Rattle.fleet_links.specs.declared.link.LinkEnd.TheVariants.{Memory}
use Rattle.fleet_links.specs.declared.link.Turn.{Turn}
use Rattle.fleet_links.specs.declared.link.Turn.TheVariants.{Waits, Again, Over}
use Rattle.fleet_meters.specs.Calls.{FleetCall, admitted, ran, closed, missed, gave, IsEnd}
use Rattle.fleet_meters.specs.Calls.{told_in, exchanges_at, told_there, told_at}
use Rattle.fleet_meters.specs.Moments.{NoneOf, IsClosing, RunsOut, turn_after, last_turn}

pub none_on : (Kind : FleetCall → Type 0) (calls : List FleetCall) (call : FleetCall)
    → NoneOf Kind calls → (¬ (Kind call)) → NoneOf Kind (calls ++ call ∷ [])
none_on Kind [] call none never = (never, tt)
none_on Kind (c ∷ calls) call none never = (none.0, none_on Kind calls call none.1 never)

pub none_before : (Kind : FleetCall → Type 0) (calls : List FleetCall) (call : FleetCall)
    → NoneOf Kind (calls ++ call ∷ []) → NoneOf Kind calls
none_before Kind [] call none = tt
none_before Kind (c ∷ calls) call none = (none.0, none_before Kind calls call none.1)

pub none_last : (Kind : FleetCall → Type 0) (calls : List FleetCall) (call : FleetCall)
    → NoneOf Kind (calls ++ call ∷ []) → ¬ (Kind call)
none_last Kind [] call none = none.0
none_last Kind (c ∷ calls) call none = none_last Kind calls call none.1

pub none_both : (Kind : FleetCall → Type 0) (calls more : List FleetCall) → NoneOf Kind calls
    → NoneOf Kind more → NoneOf Kind (calls ++ more)
none_both Kind [] more none none' = none'
none_both Kind (c ∷ calls) more none none' = (none.0, none_both Kind calls more none.1 none')

pub exchanges_on : (key : ℕ) (calls : List FleetCall) (call : FleetCall)
    → exchanges_at key (calls ++ call ∷ []) ≡ exchanges_at key calls ++ told_in key call
exchanges_on key [] call = append-nil (told_in key call)
exchanges_on key (c ∷ calls) call =
    ap (λ (xs : List Exchange). told_in key c ++ xs) (exchanges_on key calls call)
    ∙ sym (append_assoc (told_in key c) (exchanges_at key calls) (told_in key call))

pub told_on : (place : ℕ) (calls : List FleetCall) (call : FleetCall)
    → told_at place (calls ++ call ∷ []) ≡ told_at place calls ++ told_there place call
told_on place [] call = append-nil (told_there place call)
told_on place (c ∷ calls) call =
    ap (λ (xs : List Exchange). told_there place c ++ xs) (told_on place calls call)
    ∙ sym (append_assoc (told_there place c) (told_at place calls) (told_there place call))

pub last_on : (key : ℕ) (last : Option Turn) (calls : List FleetCall) (call : FleetCall)
    → last_turn key last (calls ++ call ∷ []) ≡ turn_after key (last_turn key last calls) call
last_on key last [] call = refl
last_on key last (c ∷ calls) call = last_on key (turn_after key last c) calls call

pub split_on : (calls earlier since : List FleetCall) (first call : FleetCall)
    → calls ≡ earlier ++ first ∷ since
    → calls ++ call ∷ [] ≡ earlier ++ first ∷ (since ++ call ∷ [])
split_on calls earlier since first call split =
    ap (λ (xs : List FleetCall). xs ++ call ∷ []) split
    ∙ append_assoc earlier (first ∷ since) (call ∷ [])

-- a call that neither closes a connection nor runs out of memory in its turn does not end it
pub not_end : (key : ℕ) (call : FleetCall) → (¬ (IsClosing key call)) → (¬ (RunsOut key call))
    → ¬ (IsEnd key call)
not_end key (ran k place turn told) closing out end = out end
not_end key (closed k) closing out end = closing end
not_end key (admitted number stream result) closing out end = end
not_end key (missed k) closing out end = end
not_end key (gave place event reply) closing out end = end

abbrev goes_on : Turn → Type 0
goes_on Waits = Unit
goes_on Again = Unit
goes_on (Over end) = ⊥

pub waits_not_over : Waits ≢ Over Memory
waits_not_over e = subst goes_on e tt

pub again_not_over : Again ≢ Over Memory
again_not_over e = subst goes_on e tt
