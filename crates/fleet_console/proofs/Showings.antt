-- The lines of control states, one after the other.
use Rattle.std.proofs.Common.{◌≡◌, ◌≤◌, ◌+◌, ◌-◌, ℕ, List, [], ◌∷◌, ◌++◌, refl, sym, ◌∙◌, ap}
use Rattle.std.proofs.Common.{subst, arith, length, min, ◌⊎◌, Ok}
use Rattle.std.proofs.Common.{append_assoc, append-nil}
use Rattle.std.proofs.lemmas.List.{length-append}
use Rattle.disconnect_control.specs.declared.state.ControlState.{ControlState}
use Rattle.fleet_meters.specs.Fleets.{FleetState, StateBy}
use Rattle.fleet_meters.specs.Places.{HasState, meter_in}
use Rattle.fleet_meters.specs.Terms.{terms_at}
use Rattle.fleet_meters.proofs.Counting.{each_on}
use Rattle.fleet_console.specs.Running.{HaveStatesFrom, ShowsOneBy, StatesBy, states_text}
use Rattle.fleet_console.specs.Running.{state_line}
use Rattle.fleet_console.specs.declared.meters.Meters.{Meters}
use Rattle.fleet_console.proofs.Givings.{next_place}

-- the lines of this many meters, from a number on, were appended to a text
pub record ShowsFrom (f : FleetState) (first count : ℕ) (text text' : List ℕ) : Type 0 where
  pub states : List ControlState
  pub counted : length states ≡ count
  pub have : HaveStatesFrom f (first - 1) states
  pub grown : text' ≡ text ++ states_text first states

-- the lines of one more meter
text_on : (number : ℕ) (states : List ControlState) (state : ControlState)
    → states_text number (states ++ state ∷ [])
    ≡ states_text number states ++ state_line (number + length states) state
text_on number [] state =
    let same : number ≡ number + 0 = omega arith in
    append-nil (state_line number state) ∙ ap (λ (n : ℕ). state_line n state) same
text_on number (s ∷ states) state =
    let same : number + 1 + length states ≡ number + length (s ∷ states) = omega arith in
    ap (λ (text : List ℕ). state_line number s ++ text) (text_on (number + 1) states state
    ∙ ap (λ (n : ℕ). states_text (number + 1) states ++ state_line n state) same)
    ∙ sym (append_assoc (state_line number s) (states_text (number + 1) states)
    (state_line (number + length (s ∷ states)) state))

pub shows_none : (f : FleetState) (first : ℕ) (text : List ℕ) → ShowsFrom f first 0 text text
shows_none f first text = record {
  states = [];
  counted = refl;
  have = record { each = λ i other lt. absurd (omega (arith, lt)) };
  grown = sym (append-nil text);
}

-- the line of one more meter was appended
pub shows_on : (f : FleetState) (first count place : ℕ) (text text' text'' : List ℕ)
    (state : ControlState) → ShowsFrom f first count text text' → place ≡ first - 1 + count
    → HasState (terms_at f.terms place) (meter_in f.places place) state
    → text'' ≡ text' ++ state_line (first + count) state
    → ShowsFrom f first (count + 1) text text''
shows_on f first count place text text' text'' state shows same has grown = record {
  states = shows.states ++ state ∷ [];
  counted = omega (arith, length-append shows.states (state ∷ []), shows.counted);
  have = record {
    each = each_on (λ i s. HasState (terms_at f.terms (first - 1 + i))
        (meter_in f.places (first - 1 + i)) s)
        shows.states state shows.have.each
        (subst (λ (p : ℕ). HasState (terms_at f.terms p) (meter_in f.places p) state)
        (same ∙ ap (λ (n : ℕ). first - 1 + n) (sym shows.counted)) has);
  };
  grown = grown
      ∙ ap (λ (t : List ℕ). t ++ state_line (first + count) state) shows.grown
      ∙ append_assoc text (states_text first shows.states) (state_line (first + count) state)
      ∙ ap (λ (t : List ℕ). text ++ t)
      (ap (λ (n : ℕ). states_text first shows.states ++ state_line (first + n) state)
      (sym shows.counted)
      ∙ sym (text_on first shows.states state));
}

-- the line of one meter was appended
pub shows_one : (f : FleetState) (number : ℕ) (text text' : List ℕ) (state : ControlState)
    → StateBy f number (Ok state) → text' ≡ text ++ state_line number state
    → ShowsOneBy f number text (Ok tt) text'
shows_one f number text text' state has grown = (has.0, state, has.1, has.2, grown)

-- the line of one more meter of a range was appended
pub range_shows_on : (f : FleetState) (first number : ℕ) (text text' text'' : List ℕ)
    → first ≤ number → (number ≡ first) ⊎ (1 ≤ first)
    → ShowsFrom f first (number - first) text text' → ShowsOneBy f number text' (Ok tt) text''
    → ShowsFrom f first (number + 1 - first) text text''
range_shows_on f first number text text' text'' low begun shows one =
    let same : number - first + 1 ≡ number + 1 - first = omega (arith, low) in
    let there : number ≡ first + (number - first) = omega (arith, low) in
    subst (λ (n : ℕ). ShowsFrom f first n text text'') same
    (shows_on f first (number - first) one.0 text text' text'' one.1 shows
    (next_place first number one.0 low begun one.2) one.3
    (one.4 ∙ ap (λ (n : ℕ). text' ++ state_line n one.1) there))

-- the lines of all meters of a range were appended
pub range_shown : (f : FleetState) (first last : ℕ) (meters : Meters) (text text' : List ℕ)
    → meters.first ≡ first → last ≡ min meters.last (length f.places) → first ≤ last
    → ShowsFrom f first (last + 1 - first) text text' → StatesBy f meters text (Ok tt) text'
range_shown f first last meters text text' same high low shows = (
  shows.states,
  omega (arith, shows.counted, high, same),
  omega (arith, shows.counted, low),
  subst (λ (n : ℕ). HaveStatesFrom f (n - 1) shows.states) (sym same) shows.have,
  shows.grown ∙ ap (λ (n : ℕ). text ++ states_text n shows.states) (sym same),
)
