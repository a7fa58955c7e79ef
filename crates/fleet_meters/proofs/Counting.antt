-- The control states of the meters so far, one after the other.
use Rattle.std.proofs.Common.{◌≡◌, ◌<◌, ◌+◌, ℕ, zero, suc, Bool, true, false, List, [], ◌∷◌, ◌++◌}
use Rattle.std.proofs.Common.{Option, Some, None, refl, sym, ◌∙◌, ap, subst, arith, length, slice_index_or}
use Rattle.std.specs.Prelude.{if◌then◌else◌}
use Rattle.std.proofs.lemmas.List.{length-append, get_or_default}
use Rattle.std.proofs.lemmas.List.Sums.{sum_by-append}
use Rattle.disconnect_control.specs.Transitions.{is_state}
use Rattle.disconnect_control.specs.declared.state.ControlState.{ControlState}
use Rattle.embedded_meter.specs.MeterStates.{MeterState}
use Rattle.fleet_faults.specs.Draws.{fault_of}
use Rattle.fleet_faults.specs.declared.fault.InjectedFault.{InjectedFault}
use Rattle.fleet_faults.specs.declared.fault.InjectedFault.TheVariants.{Silent, Slow, Vanishes, Closes}
use Rattle.fleet_faults.specs.declared.fault.InjectedFault.TheVariants.{WrongPassword, Refuses}
use Rattle.fleet_meters.specs.Fleets.{CountsIn, count_of}
use Rattle.fleet_meters.specs.Places.{HasState, meter_in}
use Rattle.fleet_meters.specs.FirstStates.{AreFirst, first_with}
use Rattle.fleet_meters.specs.Terms.{terms_at, terms_of, terms_with}
use Rattle.fleet_meters.specs.declared.states.FirstStates.{FirstStates}
use Rattle.fleet_meters.specs.declared.terms.FleetTerms.{FleetTerms}

-- what holds of each element of a list, and of one more
pub each_on : {X : Type 0} (P : ℕ → X → Type 0) (xs : List X) (x : X)
    → ((i : ℕ) (d : X) → i < length xs → P i (slice_index_or xs i d)) → P (length xs) x
    → (i : ℕ) (d : X) → i < length (xs ++ x ∷ []) → P i (slice_index_or (xs ++ x ∷ []) i d)
each_on P [] x each last zero d lt = last
each_on P [] x each last (suc i) d lt = absurd (omega (arith, lt))
each_on P (y ∷ xs) x each last zero d lt = each zero d (omega arith)
each_on P (y ∷ xs) x each last (suc i) d lt =
    each_on (λ j z. P (suc j) z) xs x (λ j e l. each (suc j) e (omega (arith, l))) last i d
    (omega (arith, lt))

-- the first meters, and how many of them are in a control state
pub record CountsFirst (terms : FleetTerms) (places : List (Option MeterState))
    (state : ControlState) (index count : ℕ) : Type 0 where
  pub states : List ControlState
  pub counted : length states ≡ index
  pub each : (place : ℕ) (other : ControlState) → place < length states
      → HasState (terms_at terms place) (meter_in places place)
      (slice_index_or states place other)
  pub is : count ≡ count_of state states

pub counts_none : (terms : FleetTerms) (places : List (Option MeterState)) (state : ControlState)
    → CountsFirst terms places state 0 0
counts_none terms places state = record {
  states = [];
  counted = refl;
  each = λ place other lt. absurd (omega (arith, lt));
  is = refl;
}

-- one more meter, which is in the state or not
pub counts_on : (terms : FleetTerms) (places : List (Option MeterState))
    (state found : ControlState) (index count count' : ℕ) (x : Option MeterState) (b : Bool)
    → is_state found state ≡ b → count' ≡ count + (if b then 1 else 0)
    → index < length places → x ≡ slice_index_or places index x
    → HasState (terms_at terms index) x found
    → CountsFirst terms places state index count
    → CountsFirst terms places state (index + 1) count'
counts_on terms places state found index count count' x b same grown within is has first =
    record {
      states = first.states ++ found ∷ [];
      counted = omega (arith, length-append first.states (found ∷ []), first.counted);
      each = each_on (λ place s. HasState (terms_at terms place) (meter_in places place) s)
          first.states found first.each
          (subst (λ (k : ℕ). HasState (terms_at terms k) (meter_in places k) found)
          (sym first.counted)
          (subst (λ (o : Option MeterState). HasState (terms_at terms index) o found)
          (is ∙ sym (get_or_default places index _ x within)) has));
      is = grown
          ∙ ap (λ (n : ℕ). n + (if b then 1 else 0)) first.is
          ∙ ap (λ (n : ℕ). count_of state first.states + n) (sym (one_more state found b same))
          ∙ sym (sum_by-append _ first.states (found ∷ []));
    }
  where
    one_more : (state found : ControlState) (b : Bool) → is_state found state ≡ b
        → count_of state (found ∷ []) ≡ (if b then 1 else 0)
    one_more state found true e = ap (λ (c : Bool). 0 + (if c then 1 else 0)) e
    one_more state found false e = ap (λ (c : Bool). 0 + (if c then 1 else 0)) e

pub counts_all : (terms : FleetTerms) (places : List (Option MeterState)) (state : ControlState)
    (index count : ℕ) → index ≡ length places → CountsFirst terms places state index count
    → CountsIn terms places state count
counts_all terms places state index count end first = (
  first.states,
  record {
    counted = first.counted ∙ end;
    each = λ place other lt. first.each place other (omega (arith, lt, first.counted, end));
  },
  first.is,
)

-- a new meter that has this fault, or none, is in its control state
first_has : (terms : FleetTerms) (states : FirstStates) (fault : Option InjectedFault)
    → AreFirst terms states → HasState (terms_with terms fault) None (first_with states fault)
first_has terms states None first = first.common
first_has terms states (Some Silent) first = first.common
first_has terms states (Some Slow) first = first.common
first_has terms states (Some Vanishes) first = first.common
first_has terms states (Some Closes) first = first.common
first_has terms states (Some WrongPassword) first = first.wrong_password
first_has terms states (Some Refuses) first = first.refuses

-- the new meter at a place is in the control state of its fault
pub first_at : (terms : FleetTerms) (states : FirstStates) (place : ℕ)
    (fault : Option InjectedFault) (state : ControlState)
    → fault ≡ fault_of terms.plan.shares terms.plan.seed (place + 1)
    → state ≡ first_with states fault → AreFirst terms states
    → HasState (terms_at terms place) None state
unfolding terms_of
first_at terms states place fault state drawn is first =
    subst (λ (s : ControlState). HasState (terms_at terms place) None s) (sym is)
    (subst (λ (f : Option InjectedFault).
    HasState (terms_with terms f) None (first_with states fault)) drawn
    (first_has terms states fault first))
