-- The places of the meters of a fleet.
--     meter_in, session_in     the meter at a place, and a session of it
--     Seats, Frees             a meter opened a session for a connection, or closed it
--     TurnsAt                  a meter ran a connection
--     Gives                    a meter applied an event
--     HasState, HasTrace       the control state of a meter, and its trace
--     SeatsIn, GivesIn         the meter with a number opened a session, or applied an event
--     PlacesStay               the meters at other places are unchanged
use Rattle.std.specs.Prelude.{◌≡◌, ◌≢◌, ◌<◌, ◌≤◌, ◌+◌, ℕ, List, Option, Some, None, Result, Ok, Err, length, slice_index_or}
use Rattle.disconnect_control.specs.declared.state.ControlState.{ControlState}
use Rattle.relay_core.specs.Stands.{StandsFor}
use Rattle.relay_core.specs.World.{World}
use Rattle.relay_events.specs.declared.event.Event.{Event}
use Rattle.relay_events.specs.declared.reply.Reply.{Reply}
use Rattle.trace_player.specs.RunTraces.{TellsRun}
use Rattle.embedded_meter.specs.Calls.{Resumes, Opens, Closes}
use Rattle.embedded_meter.specs.Dialogues.{Dialogue}
use Rattle.embedded_meter.specs.MeterStates.{MeterState, Takes, dialogue_at, max_sessions}
use Rattle.fleet_links.specs.declared.link.Turn.{Turn}
use Rattle.fleet_meters.specs.Clients.{ClientState, ClientTurns}
use Rattle.fleet_meters.specs.declared.place.AccessFault.{AccessFault}
use Rattle.fleet_meters.specs.declared.place.AccessFault.TheVariants as access
use Rattle.fleet_meters.specs.declared.place.Refusal.{Refusal}
use Rattle.fleet_meters.specs.declared.place.Refusal.TheVariants.{NoMeter, Full, Memory}
use Rattle.fleet_meters.specs.Terms.{terms_at}
use Rattle.fleet_meters.specs.declared.terms.FleetTerms.{FleetTerms}
use Rattle.fleet_meters.specs.declared.terms.MeterTerms.{MeterTerms}

-- the meter at a place; `None` if it has not been made
abbrev pub meter_in : List (Option MeterState) → ℕ → Option MeterState
meter_in places place = slice_index_or places place None

-- the session of a meter that may not have been made
abbrev pub session_of : Option MeterState → ℕ → Option Dialogue
session_of None number = None
session_of (Some m) number = dialogue_at m number

-- the session with this number of the meter at a place
abbrev pub session_in : List (Option MeterState) → ℕ → ℕ → Option Dialogue
session_in places place number = session_of (meter_in places place) number

-- whether this is the meter of a place before a session is opened: the one that the place has, or a
-- new one
abbrev pub Makes : MeterTerms → Option MeterState → MeterState → Type 0
Makes terms None m = Resumes terms.trace terms.password terms.kept_events m
Makes terms (Some old) m = m ≡ old

-- whether the meter of a place opened the session with this number; the meter is made if the place
-- has none
pub record Seats (terms : MeterTerms) (old : Option MeterState) (number : ℕ)
    (new : Option MeterState) : Type 0 where
  pub before : MeterState
  pub after : MeterState
  pub makes : Makes terms old before
  pub is : new ≡ Some after
  pub opens : Opens before number after

-- whether all sessions of the meter of a place are open
abbrev pub IsFull : Option MeterState → Type 0
IsFull m = (number : ℕ) → number < max_sessions → session_of m number ≢ None

-- whether a meter that was asked for its first free session had this result
abbrev pub OpensFirst : MeterState → Result ℕ Refusal → MeterState → Type 0
OpensFirst old (Ok number) new = Opens old number new
OpensFirst old (Err NoMeter) new = ⊥
OpensFirst old (Err Full) new = IsFull (Some old) × (new ≡ old)
OpensFirst old (Err Memory) new = new ≡ old

-- whether a place that was asked for a session had this result; its meter is made if it has none
abbrev pub SeatsBy : MeterTerms → Option MeterState → Result ℕ Refusal → Option MeterState → Type 0
SeatsBy terms old (Ok number) new = Seats terms old number new
SeatsBy terms old (Err NoMeter) new = ⊥
SeatsBy terms old (Err Full) new = IsFull old × (new ≡ old)
SeatsBy terms old (Err Memory) new = new ≡ old

-- whether the meter of a place closed the session with this number
pub record Frees (old : Option MeterState) (number : ℕ) (new : Option MeterState) : Type 0 where
  pub before : MeterState
  pub after : MeterState
  pub was : old ≡ Some before
  pub is : new ≡ Some after
  pub closes : Closes before number after

-- whether the meter of a place ran a turn of this connection with this result
pub record TurnsAt (room : ℕ) (old : Option MeterState) (c : ClientState) (turn : Turn)
    (new : Option MeterState) (c' : ClientState) : Type 0 where
  pub before : MeterState
  pub after : MeterState
  pub was : old ≡ Some before
  pub is : new ≡ Some after
  pub turns : ClientTurns room before c turn after c'

-- whether the meters at the other places, and the number of places, are unchanged
pub record PlacesStay (old : List (Option MeterState)) (place : ℕ) (new : List (Option MeterState))
    : Type 0 where
  pub places : (other : ℕ) → other ≢ place → meter_in new other ≡ meter_in old other
  pub count : length new ≡ length old

-- whether the meter with this number, counted from 1, which was asked for a session, had this
-- result: its place and the number of the session, or a refusal
abbrev pub SeatsIn : FleetTerms → List (Option MeterState) → ℕ → Result (ℕ × ℕ) Refusal
    → List (Option MeterState) → Type 0
SeatsIn terms old number (Ok seat) new = (number ≡ seat.0 + 1)
    × Seats (terms_at terms seat.0) (meter_in old seat.0) seat.1 (meter_in new seat.0)
    × PlacesStay old seat.0 new
SeatsIn terms old number (Err NoMeter) new = ((place : ℕ) → number ≡ place + 1
    → length old ≤ place) × (new ≡ old)
SeatsIn terms old number (Err Full) new = ((place : ℕ) → number ≡ place + 1
    → IsFull (meter_in old place)) × (new ≡ old)
SeatsIn terms old number (Err Memory) new = new ≡ old

-- whether the meter of a place applied an event, with this reply; the meter is made if the place
-- has none
pub record Gives (terms : MeterTerms) (old : Option MeterState) (event : Event) (reply : Reply)
    (new : Option MeterState) : Type 0 where
  pub before : MeterState
  pub after : MeterState
  pub makes : Makes terms old before
  pub is : new ≡ Some after
  pub takes : Takes before event reply after

-- whether the meter with this number, counted from 1, which was given an event, had this result: a
-- reply, or a fault that left all meters unchanged
abbrev pub GivesIn : FleetTerms → List (Option MeterState) → ℕ → Event → Result Reply AccessFault
    → List (Option MeterState) → Type 0
GivesIn terms old number event (Ok reply) new = (place : ℕ) × (number ≡ place + 1)
    × Gives (terms_at terms place) (meter_in old place) event reply (meter_in new place)
    × PlacesStay old place new
GivesIn terms old number event (Err access.NoMeter) new = ((place : ℕ) → number ≡ place + 1
    → length old ≤ place) × (new ≡ old)
GivesIn terms old number event (Err access.Memory) new = new ≡ old

-- whether this is the control state of the meter of a place: that of a new meter if the place has
-- none
pub record HasState (terms : MeterTerms) (place : Option MeterState) (state : ControlState)
    : Type 0 where
  pub meter : MeterState
  pub makes : Makes terms place meter
  pub is : (w : World) → StandsFor meter.recorder.core w → state ≡ w.control.state

-- whether this is the text of the trace of the meter of a place: that of a new meter if the place
-- has none
pub record HasTrace (terms : MeterTerms) (place : Option MeterState) (text : List ℕ) : Type 0 where
  pub meter : MeterState
  pub makes : Makes terms place meter
  pub tells : TellsRun meter.recorder text
