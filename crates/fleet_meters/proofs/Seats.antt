-- The sessions of one meter of a fleet.
use Rattle.std.proofs.Common.{◌≡◌, ◌≢◌, ◌<◌, ◌+◌, ℕ, zero, suc, List, [], ◌∷◌, Option, Some, None, Result, Ok, Err, refl, sym, ◌∙◌, ap, subst, arith, length, slice_index_or, slice_set}
use Rattle.std.proofs.lemmas.List.{get_or_default, get_or-set_same, get_or-set_other, length-set}
use Rattle.std.proofs.lemmas.Option.{none-some}
use Rattle.disconnect_control.specs.declared.state.ControlState.{ControlState}
use Rattle.relay_core.specs.Stands.{StandsFor}
use Rattle.relay_core.specs.World.{World}
use Rattle.relay_events.specs.declared.event.Event.{Event}
use Rattle.relay_events.specs.declared.reply.Reply.{Reply}
use Rattle.trace_player.specs.RunTraces.{TellsRun}
use Rattle.embedded_meter.specs.Calls.{Resumes, Opens, OpensBy, ClosesBy}
use Rattle.embedded_meter.specs.Dialogues.{Dialogue}
use Rattle.embedded_meter.specs.MeterStates.{MeterState, Takes, dialogue_at}
use Rattle.embedded_meter.specs.declared.fault.MeterFault.{MeterFault}
use Rattle.embedded_meter.specs.declared.fault.MeterFault.TheVariants.{NoSession, SessionTaken, TooManySamples, Uneven}
use Rattle.embedded_meter.specs.declared.fault.MeterFault.TheVariants as fault
use Rattle.fleet_links.specs.declared.link.Turn.{Turn}
use Rattle.fleet_meters.specs.Clients.{ClientState, ClientTurns}
use Rattle.fleet_meters.specs.Places.{Gives, HasState, HasTrace}
use Rattle.fleet_meters.specs.Places.{Seats, SeatsBy, OpensFirst, IsFull, Frees, TurnsAt, Makes, PlacesStay, meter_in, session_in, session_of}
use Rattle.fleet_meters.specs.declared.place.Refusal.{Refusal}
use Rattle.fleet_meters.specs.declared.place.Refusal.TheVariants.{NoMeter, Full}
use Rattle.fleet_meters.specs.declared.place.Refusal.TheVariants as refusal
use Rattle.fleet_meters.specs.Terms.{terms_of, terms_at}
use Rattle.fleet_meters.specs.declared.terms.FleetTerms.{FleetTerms}
use Rattle.fleet_meters.specs.declared.terms.MeterTerms.{MeterTerms}

-- a session that is open is not missing
pub some_not_none : {A : Type 0} (o : Option A) (a : A) → o ≡ Some a → o ≢ None
some_not_none o a e none = none-some a (sym none ∙ e)

-- ---- the sessions of a place after a call

at_some : (o : Option MeterState) (m : MeterState) (number : ℕ) → o ≡ Some m
    → session_of o number ≡ dialogue_at m number
at_some o m number e = ap (λ (x : Option MeterState). session_of x number) e

-- the other sessions stay, where the meter is there before and after
others_at : (old new : Option MeterState) (m m' : MeterState) (other : ℕ) → old ≡ Some m
    → new ≡ Some m' → dialogue_at m' other ≡ dialogue_at m other
    → session_of new other ≡ session_of old other
others_at old new m m' other was is same =
    at_some new m' other is ∙ same ∙ sym (at_some old m other was)

-- a new meter has no session before
makes_others : (terms : MeterTerms) (old : Option MeterState) (m : MeterState) (number : ℕ)
    → Makes terms old m → dialogue_at m number ≡ session_of old number
makes_others terms None m number makes = makes.sessions number
makes_others terms (Some old) m number makes =
    ap (λ (q : MeterState). dialogue_at q number) makes

pub seats_others : (terms : MeterTerms) (old new : Option MeterState) (number other : ℕ)
    → Seats terms old number new → other ≢ number → session_of new other ≡ session_of old other
seats_others terms old new number other seats apart =
    at_some new seats.after other seats.is ∙ seats.opens.stay.others other apart
    ∙ makes_others terms old seats.before other seats.makes

pub seats_free : (terms : MeterTerms) (old new : Option MeterState) (number : ℕ)
    → Seats terms old number new → session_of old number ≡ None
seats_free terms old new number seats =
    sym (makes_others terms old seats.before number seats.makes) ∙ seats.opens.free

pub seats_open : (terms : MeterTerms) (old new : Option MeterState) (number : ℕ)
    → Seats terms old number new → session_of new number ≢ None
seats_open terms old new number seats none =
    seats.opens.is_open (sym (at_some new seats.after number seats.is) ∙ none)

pub frees_others : (old new : Option MeterState) (number other : ℕ) → Frees old number new
    → other ≢ number → session_of new other ≡ session_of old other
frees_others old new number other frees apart =
    others_at old new frees.before frees.after other frees.was frees.is
    (frees.closes.stay.others other apart)

pub turns_others : (room : ℕ) (old new : Option MeterState) (c c' : ClientState) (turn : Turn)
    (other : ℕ) → TurnsAt room old c turn new c' → other ≢ c.number
    → session_of new other ≡ session_of old other
turns_others room old new c c' turn other turns apart =
    others_at old new turns.before turns.after other turns.was turns.is
    (turns.turns.turns.serves.stay.others other apart)

pub turns_open : (room : ℕ) (old new : Option MeterState) (c c' : ClientState) (turn : Turn)
    → TurnsAt room old c turn new c' → session_of new c.number ≢ None
turns_open room old new c c' turn turns =
    some_not_none (session_of new c.number) turns.turns.turns.serves.after
    (at_some new turns.after c.number turns.is ∙ turns.turns.turns.serves.is)

-- a meter that is given an event keeps its sessions
pub gives_sessions : (terms : MeterTerms) (old new : Option MeterState) (event : Event)
    (reply : Reply) (number : ℕ) → Gives terms old event reply new
    → session_of new number ≡ session_of old number
gives_sessions terms old new event reply number gives =
    at_some new gives.after number gives.is
    ∙ ap (λ (ds : List (Option Dialogue)). slice_index_or ds number None) gives.takes.places
    ∙ makes_others terms old gives.before number gives.makes

-- ---- the calls

pub makes_first : (terms : MeterTerms) (trace : List ℕ) (m : MeterState) → trace ≡ terms.trace
    → Resumes trace terms.password terms.kept_events m → Makes terms None m
makes_first terms trace m same resumes =
    subst (λ (t : List ℕ). Resumes t terms.password terms.kept_events m) same resumes

pub new_seats : (terms : MeterTerms) (m m' v : MeterState) → Makes terms None m → Opens m 0 m'
    → v ≡ m' → Seats terms None 0 (Some v)
new_seats terms m m' v makes opens is = record {
  before = m;
  after = m';
  makes = makes;
  is = ap Some is;
  opens = opens;
}

pub gives_first : (terms : MeterTerms) (m v m' : MeterState) (event : Event) (reply : Reply)
    → Makes terms None m → v ≡ m → Takes v event reply m' → Gives terms None event reply (Some m')
gives_first terms m v m' event reply makes same takes = record {
  before = m;
  after = m';
  makes = makes;
  is = refl;
  takes = subst (λ (q : MeterState). Takes q event reply m') same takes;
}

pub gives_there : (terms : MeterTerms) (o : Option MeterState) (m m' : MeterState) (event : Event)
    (reply : Reply) → o ≡ Some m → Takes m event reply m'
    → Gives terms o event reply (Some m')
gives_there terms o m m' event reply is takes = record {
  before = m;
  after = m';
  makes = subst (λ (x : Option MeterState). Makes terms x m) (sym is) refl;
  is = refl;
  takes = takes;
}

pub state_there : (terms : MeterTerms) (o : Option MeterState) (m : MeterState)
    (state : ControlState) → o ≡ Some m
    → ((w : World) → StandsFor m.recorder.core w → state ≡ w.control.state)
    → HasState terms o state
state_there terms o m state is tells = record {
  meter = m;
  makes = subst (λ (x : Option MeterState). Makes terms x m) (sym is) refl;
  is = tells;
}

pub state_first : (terms : MeterTerms) (m : MeterState) (state : ControlState)
    → Makes terms None m
    → ((w : World) → StandsFor m.recorder.core w → state ≡ w.control.state)
    → HasState terms None state
state_first terms m state makes tells = record { meter = m; makes = makes; is = tells }

pub trace_first : (terms : MeterTerms) (m : MeterState) (text : List ℕ) → Makes terms None m
    → TellsRun m.recorder text → HasTrace terms None text
trace_first terms m text makes tells = record { meter = m; makes = makes; tells = tells }

pub trace_there : (terms : MeterTerms) (o : Option MeterState) (m : MeterState) (text : List ℕ)
    → o ≡ Some m → TellsRun m.recorder text → HasTrace terms o text
trace_there terms o m text is tells = record {
  meter = m;
  makes = subst (λ (x : Option MeterState). Makes terms x m) (sym is) refl;
  tells = tells;
}

pub opens_unchanged : (m m' : MeterState) (number : ℕ) (why : MeterFault)
    → OpensBy m number (Err why) m' → m' ≡ m
opens_unchanged m m' number NoSession opens = opens.1
opens_unchanged m m' number SessionTaken opens = opens.1
opens_unchanged m m' number fault.Memory opens = opens.2
opens_unchanged m m' number TooManySamples opens = absurd opens
opens_unchanged m m' number Uneven opens = absurd opens

pub close_frees : (o : Option MeterState) (m m' : MeterState) (number : ℕ)
    (result : Result Unit MeterFault) → o ≡ Some m → session_of o number ≢ None
    → ClosesBy m number result m' → Frees o number (Some m')
close_frees o m m' number (Ok done) is is_open closes = record {
  before = m;
  after = m';
  was = is;
  is = refl;
  closes = closes;
}
close_frees o m m' number (Err why) is is_open closes =
    absurd (is_open (at_some o m number is ∙ closes.1))

pub turns_at : (room : ℕ) (o : Option MeterState) (m m' : MeterState) (c c' : ClientState)
    (turn : Turn) → o ≡ Some m → ClientTurns room m c turn m' c'
    → TurnsAt room o c turn (Some m') c'
turns_at room o m m' c c' turn is turns = record {
  before = m;
  after = m';
  was = is;
  is = refl;
  turns = turns;
}

-- ---- the place in the list of places

-- the meter at a place does not depend on what stands for a missing one
meter_is : (places : List (Option MeterState)) (at : ℕ) (x : Option MeterState)
    → at < length places → x ≡ slice_index_or places at x → meter_in places at ≡ x
meter_is places at x within is = get_or_default places at None x within ∙ sym is

meter_set : (places : List (Option MeterState)) (at : ℕ) (y : Option MeterState)
    → at < length places → meter_in (slice_set places at y) at ≡ y
meter_set places at y within = get_or-set_same places at y None within

pub frees_in : (places : List (Option MeterState)) (at : ℕ) (x y : Option MeterState)
    (number : ℕ) → at < length places → x ≡ slice_index_or places at x → Frees x number y
    → Frees (meter_in places at) number (meter_in (slice_set places at y) at)
frees_in places at x y number within is frees =
    subst (λ (o : Option MeterState). Frees o number (meter_in (slice_set places at y) at))
    (sym (meter_is places at x within is))
    (subst (λ (o : Option MeterState). Frees x number o)
    (sym (meter_set places at y within)) frees)

pub seats_by : (terms : MeterTerms) (o : Option MeterState) (m m' : MeterState)
    (result : Result ℕ Refusal) → o ≡ Some m → OpensFirst m result m'
    → SeatsBy terms o result (Some m')
seats_by terms o m m' (Ok number) is opens = record {
  before = m;
  after = m';
  makes = subst (λ (x : Option MeterState). Makes terms x m) (sym is) refl;
  is = refl;
  opens = opens;
}
seats_by terms o m m' (Err NoMeter) is opens = absurd opens
seats_by terms o m m' (Err Full) is opens = (
  subst (λ (x : Option MeterState). IsFull x) (sym is) opens.0,
  ap Some opens.1 ∙ sym is,
)
seats_by terms o m m' (Err refusal.Memory) is opens = ap Some opens ∙ sym is

-- the terms of the meter with a number are those at its place
terms_there : (terms : FleetTerms) (t : MeterTerms) (number at : ℕ) → t ≡ terms_of terms number
    → number ≡ at + 1 → t ≡ terms_at terms at
terms_there terms t number at same there = same ∙ ap (λ (n : ℕ). terms_of terms n) there

pub seats_in : (terms : FleetTerms) (t : MeterTerms) (places : List (Option MeterState))
    (number at : ℕ) (x y : Option MeterState) (session : ℕ) → t ≡ terms_of terms number
    → number ≡ at + 1 → at < length places → x ≡ slice_index_or places at x → Seats t x session y
    → Seats (terms_at terms at) (meter_in places at) session (meter_in (slice_set places at y) at)
seats_in terms t places number at x y session same there within is seats =
    subst (λ (o : Option MeterState).
    Seats (terms_at terms at) o session (meter_in (slice_set places at y) at))
    (sym (meter_is places at x within is))
    (subst (λ (o : Option MeterState). Seats (terms_at terms at) x session o)
    (sym (meter_set places at y within))
    (subst (λ (m : MeterTerms). Seats m x session y) (terms_there terms t number at same there)
    seats))

pub gives_in : (terms : FleetTerms) (t : MeterTerms) (places : List (Option MeterState))
    (number at : ℕ) (x y : Option MeterState) (event : Event) (reply : Reply)
    → t ≡ terms_of terms number → number ≡ at + 1 → at < length places
    → x ≡ slice_index_or places at x → Gives t x event reply y
    → Gives (terms_at terms at) (meter_in places at) event reply
    (meter_in (slice_set places at y) at)
gives_in terms t places number at x y event reply same there within is gives =
    subst (λ (o : Option MeterState).
    Gives (terms_at terms at) o event reply (meter_in (slice_set places at y) at))
    (sym (meter_is places at x within is))
    (subst (λ (o : Option MeterState). Gives (terms_at terms at) x event reply o)
    (sym (meter_set places at y within))
    (subst (λ (m : MeterTerms). Gives m x event reply y) (terms_there terms t number at same there)
    gives))

pub turns_in : (room : ℕ) (places : List (Option MeterState)) (at : ℕ)
    (x y : Option MeterState) (c c' : ClientState) (turn : Turn) → at < length places
    → x ≡ slice_index_or places at x → TurnsAt room x c turn y c'
    → TurnsAt room (meter_in places at) c turn (meter_in (slice_set places at y) at) c'
turns_in room places at x y c c' turn within is turns =
    subst (λ (o : Option MeterState).
    TurnsAt room o c turn (meter_in (slice_set places at y) at) c')
    (sym (meter_is places at x within is))
    (subst (λ (o : Option MeterState). TurnsAt room x c turn o c')
    (sym (meter_set places at y within)) turns)

pub places_set : (places : List (Option MeterState)) (at : ℕ) (y : Option MeterState)
    → PlacesStay places at (slice_set places at y)
places_set places at y = record {
  places = λ other far. get_or-set_other places at other y None far;
  count = length-set places at y;
}

-- a meter with a session is at one of the places
pub within_places : (places : List (Option MeterState)) (at number : ℕ)
    → session_in places at number ≢ None → at < length places
within_places [] at number is_open = absurd (is_open refl)
within_places (x ∷ places) zero number is_open = omega arith
within_places (x ∷ places) (suc at) number is_open =
    let rest = within_places places at number is_open in
    omega (arith, rest)

pub open_at_place : (places : List (Option MeterState)) (at place number : ℕ)
    (x : Option MeterState) → at ≡ place → x ≡ slice_index_or places at x
    → session_in places place number ≢ None → session_of x number ≢ None
open_at_place places at place number x same is is_open none =
    let there = subst (λ (p : ℕ). session_in places p number ≢ None) (sym same) is_open in
    there (ap (λ (m : Option MeterState). session_of m number)
    (meter_is places at x (within_places places at number there) is) ∙ none)

-- the answers about a meter are those about its place
pub state_in : (terms : FleetTerms) (t : MeterTerms) (places : List (Option MeterState))
    (number at : ℕ) (x : Option MeterState) (state : ControlState) → t ≡ terms_of terms number
    → number ≡ at + 1 → at < length places → x ≡ slice_index_or places at x → HasState t x state
    → HasState (terms_at terms at) (meter_in places at) state
state_in terms t places number at x state same there within is has =
    subst (λ (o : Option MeterState). HasState (terms_at terms at) o state)
    (sym (meter_is places at x within is))
    (subst (λ (m : MeterTerms). HasState m x state) (terms_there terms t number at same there) has)

pub trace_in : (terms : FleetTerms) (t : MeterTerms) (places : List (Option MeterState))
    (number at : ℕ) (x : Option MeterState) (text : List ℕ) → t ≡ terms_of terms number
    → number ≡ at + 1 → at < length places → x ≡ slice_index_or places at x → HasTrace t x text
    → HasTrace (terms_at terms at) (meter_in places at) text
trace_in terms t places number at x text same there within is has =
    subst (λ (o : Option MeterState). HasTrace (terms_at terms at) o text)
    (sym (meter_is places at x within is))
    (subst (λ (m : MeterTerms). HasTrace m x text) (terms_there terms t number at same there) has)
