-- A fleet: its meters and the connections of their clients.
--     FleetState                the two
--     IsFleet                   each connection has a session of its meter for itself
--     Isolated                  what one connection does leaves the others unchanged
--     Admits, Runs, Releases    a connection was admitted, ran, or was closed
--     GivesBy                   a meter was given an event
--     StateBy, TraceBy          the control state of a meter, and its trace
--     Counts                    the number of meters in a control state
use Rattle.std.specs.Prelude.{◌≡◌, ◌≢◌, ◌<◌, ◌≤◌, ◌+◌, ℕ, List, [], Option, Some, None, Result, Ok}
use Rattle.std.specs.Prelude.{Err, length, slice_index_or, ⊤}
use Rattle.std.specs.List.{count_by}
use Rattle.disconnect_control.specs.Transitions.{is_state}
use Rattle.disconnect_control.specs.declared.state.ControlState.{ControlState}
use Rattle.relay_events.specs.declared.event.Event.{Event}
use Rattle.relay_events.specs.declared.reply.Reply.{Reply}
use Rattle.slab.specs.Slab.{Slab, get}
use Rattle.embedded_meter.specs.MeterStates.{MeterState}
use Rattle.fleet_links.specs.Streams.{StreamState}
use Rattle.fleet_links.specs.declared.link.Turn.{Turn}
use Rattle.fleet_meters.specs.Clients.{ClientState}
use Rattle.fleet_meters.specs.Places.{Seats, Frees, TurnsAt, Gives, IsFull, HasState, HasTrace}
use Rattle.fleet_meters.specs.Places.{meter_in, session_in}
use Rattle.fleet_meters.specs.declared.place.AccessFault.{AccessFault}
use Rattle.fleet_meters.specs.declared.place.AccessFault.TheVariants as access
use Rattle.fleet_meters.specs.declared.place.Refusal.{Refusal}
use Rattle.fleet_meters.specs.declared.place.Refusal.TheVariants.{NoMeter, Full, Memory}
use Rattle.fleet_meters.specs.Terms.{terms_at}
use Rattle.fleet_meters.specs.declared.terms.FleetTerms.{FleetTerms}

-- a fleet: what its meters are made of, the meter at each place, and the connections
pub record FleetState : Type 0 where
  pub terms : FleetTerms
  pub places : List (Option MeterState)
  pub clients : Slab ClientState

-- Whether the session of each connection is open, and no other connection has it: the invariant of
-- every fleet. A meter has eight sessions, so at most eight connections.
pub record IsFleet (f : FleetState) : Type 0 where
  pub is_open : (key : ℕ) (c : ClientState) → get f.clients key ≡ Some c
      → session_in f.places c.place c.number ≢ None
  pub apart : (key other : ℕ) (c d : ClientState) → get f.clients key ≡ Some c
      → get f.clients other ≡ Some d → c.place ≡ d.place → c.number ≡ d.number → key ≡ other

-- whether a fleet with these terms and this number of places is new: no meter is made, and there
-- are no connections
pub record IsNewFleet (terms : FleetTerms) (count : ℕ) (f : FleetState) : Type 0 where
  pub terms_are : f.terms ≡ terms
  pub counted : length f.places ≡ count
  pub unmade : (place : ℕ) → meter_in f.places place ≡ None
  pub unused : (key : ℕ) → get f.clients key ≡ None

-- whether the other connections, and their sessions, are unchanged
pub record Isolated (old : FleetState) (key : ℕ) (new : FleetState) : Type 0 where
  pub clients : (other : ℕ) → other ≢ key → get new.clients other ≡ get old.clients other
  pub sessions : (other : ℕ) (c : ClientState) → other ≢ key → get old.clients other ≡ Some c
      → session_in new.places c.place c.number ≡ session_in old.places c.place c.number

-- whether the meters at the other places, the number of places and the terms are unchanged
pub record MetersStay (old : FleetState) (place : ℕ) (new : FleetState) : Type 0 where
  pub places : (other : ℕ) → other ≢ place → meter_in new.places other ≡ meter_in old.places other
  pub count : length new.places ≡ length old.places
  pub terms : new.terms ≡ old.terms

-- whether a connection to the meter at a place was admitted under this key
pub record Admits (old : FleetState) (place : ℕ) (stream : StreamState) (key : ℕ)
    (new : FleetState) : Type 0 where
  pub number : ℕ
  pub vacant : get old.clients key ≡ None
  pub client : get new.clients key
      ≡ Some (record { place = place; number = number; stream = stream; pending = [] })
  pub seats : Seats (terms_at old.terms place) (meter_in old.places place) number
      (meter_in new.places place)
  pub isolated : Isolated old key new
  pub stay : MetersStay old place new

-- whether the meters and the connections are unchanged
pub record Unchanged (old new : FleetState) : Type 0 where
  pub terms : new.terms ≡ old.terms
  pub places : new.places ≡ old.places
  pub clients : (key : ℕ) → get new.clients key ≡ get old.clients key

module _ {S : Type 0} where
  -- the result of a connection, without the stream that was refused
  abbrev pub without_stream : Result ℕ (S × Refusal) → Result ℕ Refusal
  without_stream (Ok key) = Ok key
  without_stream (Err refused) = Err refused.1

-- whether a connection to the meter with this number, counted from 1, had this result: a key, or a
-- refusal that left the fleet unchanged
abbrev pub AdmitsBy : FleetState → ℕ → StreamState → Result ℕ Refusal → FleetState → Type 0
AdmitsBy old number stream (Ok key) new = (place : ℕ) × (number ≡ place + 1)
    × Admits old place stream key new
AdmitsBy old number stream (Err NoMeter) new = ((place : ℕ) → number ≡ place + 1
    → length old.places ≤ place) × Unchanged old new
AdmitsBy old number stream (Err Full) new = ((place : ℕ) → number ≡ place + 1
    → IsFull (meter_in old.places place)) × Unchanged old new
AdmitsBy old number stream (Err Memory) new = Unchanged old new

-- whether the connection with this key ran a turn with this result, and the other connections and
-- meters are unchanged
pub record Runs (room : ℕ) (old : FleetState) (key : ℕ) (turn : Turn) (new : FleetState) : Type 0
  where
    pub before : ClientState
    pub after : ClientState
    pub was : get old.clients key ≡ Some before
    pub is : get new.clients key ≡ Some after
    pub turns : TurnsAt room (meter_in old.places before.place) before turn
        (meter_in new.places before.place) after
    pub isolated : Isolated old key new
    pub stay : MetersStay old before.place new

-- whether a turn of the connection with this key had this result; `None` if no connection has the
-- key
abbrev pub RunsBy : ℕ → FleetState → ℕ → Option Turn → FleetState → Type 0
RunsBy room old key (Some turn) new = Runs room old key turn new
RunsBy room old key None new = (get old.clients key ≡ None) × (new ≡ old)

-- whether the connection with this key, which had this stream, was closed, and its session with it
pub record Releases (old : FleetState) (key : ℕ) (stream : StreamState) (new : FleetState)
    : Type 0 where
  pub client : ClientState
  pub left : client.stream ≡ stream
  pub was : get old.clients key ≡ Some client
  pub gone : get new.clients key ≡ None
  pub frees : Frees (meter_in old.places client.place) client.number
      (meter_in new.places client.place)
  pub isolated : Isolated old key new
  pub stay : MetersStay old client.place new

-- whether the meter at a place applied an event with this reply; all sessions, all connections and
-- the other meters are unchanged
pub record Applies (old : FleetState) (place : ℕ) (event : Event) (reply : Reply)
    (new : FleetState) : Type 0 where
  pub gives : Gives (terms_at old.terms place) (meter_in old.places place) event reply
      (meter_in new.places place)
  pub clients : new.clients ≡ old.clients
  pub sessions : (other number : ℕ)
      → session_in new.places other number ≡ session_in old.places other number
  pub stay : MetersStay old place new

-- whether the fleet has no meter with this number, counted from 1
abbrev pub IsNoMeter : FleetState → ℕ → Type 0
IsNoMeter f number = (place : ℕ) → number ≡ place + 1 → length f.places ≤ place

-- whether the meter with this number, counted from 1, which was given an event, had this result: a
-- reply, or a fault that left the fleet unchanged
abbrev pub GivesBy : FleetState → ℕ → Event → Result Reply AccessFault → FleetState → Type 0
GivesBy old number event (Ok reply) new = (place : ℕ) × (number ≡ place + 1)
    × Applies old place event reply new
GivesBy old number event (Err access.NoMeter) new = IsNoMeter old number × (new ≡ old)
GivesBy old number event (Err access.Memory) new = new ≡ old

-- whether a question for the control state of the meter with this number, counted from 1, had this
-- answer
abbrev pub StateBy : FleetState → ℕ → Result ControlState AccessFault → Type 0
StateBy f number (Ok state) = (place : ℕ) × (number ≡ place + 1)
    × HasState (terms_at f.terms place) (meter_in f.places place) state
StateBy f number (Err access.NoMeter) = IsNoMeter f number
StateBy f number (Err access.Memory) = ⊤

-- whether a question for the trace of the meter with this number, counted from 1, had this answer
abbrev pub TraceBy : FleetState → ℕ → Result (List ℕ) AccessFault → Type 0
TraceBy f number (Ok text) = (place : ℕ) × (number ≡ place + 1)
    × HasTrace (terms_at f.terms place) (meter_in f.places place) text
TraceBy f number (Err access.NoMeter) = IsNoMeter f number
TraceBy f number (Err access.Memory) = ⊤

-- whether these are the control states of the meters at these places, in order
pub record HaveStates (terms : FleetTerms) (places : List (Option MeterState))
    (states : List ControlState) : Type 0 where
  pub counted : length states ≡ length places
  pub each : (place : ℕ) (other : ControlState) → place < length places
      → HasState (terms_at terms place) (meter_in places place)
      (slice_index_or states place other)

-- the number of these control states that are this one
abbrev pub count_of : ControlState → List ControlState → ℕ
count_of state states = count_by (λ other. is_state other state) states

-- whether this is the number of the meters at these places that are in a control state
abbrev pub CountsIn : FleetTerms → List (Option MeterState) → ControlState → ℕ → Type 0
CountsIn terms places state count = (states : List ControlState) × HaveStates terms places states
    × (count ≡ count_of state states)

-- whether this is the number of the meters of a fleet that are in a control state
abbrev pub Counts : FleetState → ControlState → ℕ → Type 0
Counts f state count = CountsIn f.terms f.places state count
