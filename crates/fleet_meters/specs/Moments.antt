-- A fleet at any moment: after calls that began with a new fleet.
--     NoneOf           none of these calls is of a kind
--     IsClosing        a call closes the connection with a key
--     RunsOut          memory runs out in a turn of it
--     RunsElsewhere    a turn of it is at another place than this
--     Addresses        a call is for the meter at a place
--     last_turn        the result of the last turn of a connection
--     HasLived         an open connection since it was admitted
--     IsMeterAfter     the meter at a place
--     Holds            all of this for a whole fleet
--     AreWhole         no open connection has lost bytes
use Rattle.std.specs.Prelude.{◌≡◌, ◌≢◌, ◌≤◌, ◌+◌, ◌++◌, ◌==◌, if◌then◌else◌, ℕ, List, [], ◌∷◌}
use Rattle.std.specs.Prelude.{Option, Some, None, Ok, ⊤, length, All, AllPairs}
use Rattle.slab.specs.Slab.{get}
use Rattle.embedded_meter.specs.MeterStates.{MeterState, max_sessions}
use Rattle.fleet_links.specs.Streams.{StreamState}
use Rattle.fleet_links.specs.declared.link.LinkEnd.TheVariants.{Memory}
use Rattle.fleet_links.specs.declared.link.Turn.{Turn}
use Rattle.fleet_links.specs.declared.link.Turn.TheVariants.{Waits, Over}
use Rattle.fleet_meters.specs.Clients.{ClientState}
use Rattle.fleet_meters.specs.Fleets.{FleetState, IsFleet}
use Rattle.fleet_meters.specs.Places.{Makes, meter_in}
use Rattle.fleet_meters.specs.Terms.{terms_at, terms_of}
use Rattle.fleet_meters.specs.declared.terms.FleetTerms.{FleetTerms}
use Rattle.fleet_meters.specs.Calls.{FleetCall, admitted, ran, closed, missed, gave}
use Rattle.fleet_meters.specs.Calls.{exchanges_at, told_at}
use Rattle.fleet_meters.specs.Lives.{IsServed, HasAnswered, ExtendsHistory}

-- ---- kinds of calls

-- whether none of these calls is of this kind
abbrev pub NoneOf : (FleetCall → Type 0) → List FleetCall → Type 0
NoneOf Kind [] = ⊤
NoneOf Kind (call ∷ calls) = (¬ (Kind call)) × NoneOf Kind calls

-- whether a call closes the connection with this key
abbrev pub IsClosing : ℕ → FleetCall → Type 0
IsClosing key (closed k) = k ≡ key
IsClosing key (admitted number stream result) = ⊥
IsClosing key (ran k place turn told) = ⊥
IsClosing key (missed k) = ⊥
IsClosing key (gave place event reply) = ⊥

-- whether memory runs out in this turn of the connection with this key
abbrev pub RunsOut : ℕ → FleetCall → Type 0
RunsOut key (ran k place turn told) = (k ≡ key) × (turn ≡ Over Memory)
RunsOut key (admitted number stream result) = ⊥
RunsOut key (closed k) = ⊥
RunsOut key (missed k) = ⊥
RunsOut key (gave place event reply) = ⊥

-- whether this turn of the connection with this key is not at this place
abbrev pub RunsElsewhere : ℕ → ℕ → FleetCall → Type 0
RunsElsewhere key place (ran k p turn told) = (k ≡ key) × (p ≢ place)
RunsElsewhere key place (admitted number stream result) = ⊥
RunsElsewhere key place (closed k) = ⊥
RunsElsewhere key place (missed k) = ⊥
RunsElsewhere key place (gave p event reply) = ⊥

-- whether a call is for the meter at this place: a client asks for it, or it is given an event
abbrev pub Addresses : ℕ → FleetCall → Type 0
Addresses place (admitted number stream result) = number ≡ place + 1
Addresses place (gave p event reply) = p ≡ place
Addresses place (ran key p turn told) = ⊥
Addresses place (closed key) = ⊥
Addresses place (missed key) = ⊥

-- ---- a connection

-- the result of the last turn of the connection with this key, up to and including this call
abbrev pub turn_after : ℕ → Option Turn → FleetCall → Option Turn
turn_after key last (ran k place turn told) = if k == key then Some turn else last
turn_after key last (admitted number stream result) = last
turn_after key last (closed k) = last
turn_after key last (missed k) = last
turn_after key last (gave place event reply) = last

-- the result of the last turn of the connection with this key, where `last` is that of its last
-- turn before these calls
abbrev pub last_turn : ℕ → Option Turn → List FleetCall → Option Turn
last_turn key last [] = last
last_turn key last (call ∷ calls) = last_turn key (turn_after key last call) calls

-- Whether an open connection is as its calls left it. One of the calls admitted it, with this
-- stream, to the meter with this number; since then it was not closed, and all its turns were at
-- the place of this meter. Unless memory ran out in one of them, it is written the first frames
-- that a session with the password of its meter owes for the bytes that were read from it, in
-- order; and if its last turn waited and nothing is pending, it has the answers to all of them.
pub record HasLived (terms : FleetTerms) (calls : List FleetCall) (now : FleetState) (key : ℕ)
    (c : ClientState) : Type 0 where
  pub number : ℕ
  pub origin : StreamState
  pub earlier : List FleetCall
  pub since : List FleetCall
  pub split : calls ≡ earlier ++ admitted number origin (Ok key) ∷ since
  pub its_meter : number ≡ c.place + 1
  pub open_since : NoneOf (IsClosing key) since
  pub at_home : NoneOf (RunsElsewhere key c.place) since
  pub frames : NoneOf (RunsOut key) since
      → IsServed (terms_of terms number).password origin (exchanges_at key since) now key
  pub answers : NoneOf (RunsOut key) since → last_turn key None since ≡ Some Waits
      → c.pending ≡ []
      → HasAnswered (terms_of terms number).password origin (exchanges_at key since) c.stream

-- whether memory ran out in no turn of a connection that is open
abbrev pub AreWhole : FleetTerms → List FleetCall → FleetState → Type 0
AreWhole terms calls now = (key : ℕ) (c : ClientState) → get now.clients key ≡ Some c
    → (lived : HasLived terms calls now key c) × NoneOf (RunsOut key) lived.since

-- whether the connection with this key is open, to the meter at this place
pub record IsConnected (f : FleetState) (place key : ℕ) : Type 0 where
  pub client : ClientState
  pub is : get f.clients key ≡ Some client
  pub at : client.place ≡ place

-- ---- a fleet

-- Whether this is the meter at a place. If it has not been made, it had no events. Otherwise it was
-- new, with the terms of its place, and its history is extended by the events of the connections to
-- it and those that it was given, in order.
abbrev pub IsMeterAfter : FleetTerms → List FleetCall → ℕ → Option MeterState → Type 0
IsMeterAfter terms calls place None = told_at place calls ≡ []
IsMeterAfter terms calls place (Some m) = (new : MeterState)
    × Makes (terms_at terms place) None new × ExtendsHistory (told_at place calls) new m

-- Whether a fleet is as these calls left it. Each connection that is open has its frames. No other
-- connection has its session, and at most eight are open to one meter. Each meter has the history
-- of its own calls; one that no call was for has not been made.
pub record Holds (terms : FleetTerms) (calls : List FleetCall) (now : FleetState) : Type 0 where
  pub connections : (key : ℕ) (c : ClientState) → get now.clients key ≡ Some c
      → HasLived terms calls now key c
  pub separate : IsFleet now
  pub eight : (place : ℕ) (keys : List ℕ) → AllPairs (λ key other. key ≢ other) keys
      → All (IsConnected now place) keys → length keys ≤ max_sessions
  pub meters : (place : ℕ) → IsMeterAfter terms calls place (meter_in now.places place)
  pub untouched : (place : ℕ) → NoneOf (Addresses place) calls → meter_in now.places place ≡ None
