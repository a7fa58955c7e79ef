-- What holds of a fleet after any calls.
--     Admitted               a fleet that is new, some calls, an admission, and further calls
--     HaveTheirFrames        each connection gets the frames of its session, in order
--     HaveTheirAnswers       a connection that waits has all answers
--     HaveTheirHistories     each meter's history is that of its own calls
--     HoldsAlways            all of this at any moment, and at most eight connections a meter
--     StayUnaddressed        a meter that no call is for stays as it is
use Rattle.std.specs.Prelude.{◌≡◌, ◌≢◌, ◌++◌, ℕ, List, [], Some, Ok}
use Rattle.relay_recorder.specs.Histories.{Exchange}
use Rattle.slab.specs.Slab.{get}
use Rattle.embedded_meter.specs.MeterStates.{MeterState}
use Rattle.fleet_links.specs.Streams.{StreamState}
use Rattle.fleet_links.specs.declared.link.Turn.TheVariants.{Waits}
use Rattle.fleet_meters.specs.Clients.{ClientState}
use Rattle.fleet_meters.specs.Fleets.{FleetState, IsNewFleet}
use Rattle.fleet_meters.specs.Places.{meter_in}
use Rattle.fleet_meters.specs.Terms.{terms_of}
use Rattle.fleet_meters.specs.declared.terms.FleetTerms.{FleetTerms}
use Rattle.fleet_meters.specs.Calls.{FleetCall, admitted, ran, CallsBy, Calls, StaysOpen}
use Rattle.fleet_meters.specs.Calls.{exchanges_at}
use Rattle.fleet_meters.specs.Calls.{told_at}
use Rattle.fleet_meters.specs.Lives.{IsServed, HasAnswered, ExtendsHistory}
use Rattle.fleet_meters.specs.Moments.{NoneOf, Addresses, Holds}

-- Whether the connection with this key was admitted, and has not ended since. A fleet of meters
-- with these terms was new. After some calls it admitted a connection with this stream to the meter
-- with this number, and after further calls, which did not end the connection, it is `now`.
pub record Admitted (terms : FleetTerms) (room key : ℕ) (origin : StreamState)
    (calls : List FleetCall) (now : FleetState) : Type 0 where
  pub count : ℕ
  pub number : ℕ
  pub earlier : List FleetCall
  pub first : FleetState
  pub before : FleetState
  pub after : FleetState
  pub new : IsNewFleet terms count first
  pub leads : Calls room first earlier before
  pub admission : CallsBy room before (admitted number origin (Ok key)) after
  pub further : Calls room after calls now
  pub open_since : StaysOpen key calls

-- each connection is written the first frames that a session with the password of its meter owes,
-- in order
abbrev pub HaveTheirFrames : Type 0
HaveTheirFrames = (terms : FleetTerms) (room key : ℕ) (origin : StreamState)
    (calls : List FleetCall) (now : FleetState) → (a : Admitted terms room key origin calls now)
    → IsServed (terms_of terms a.number).password origin (exchanges_at key calls) now key

-- a connection that waits, and has nothing pending, has the answers to all that was read
abbrev pub HaveTheirAnswers : Type 0
HaveTheirAnswers = (terms : FleetTerms) (room key place : ℕ) (origin : StreamState)
    (calls : List FleetCall) (told : List Exchange) (before now : FleetState) (c : ClientState)
    → (a : Admitted terms room key origin calls before)
    → CallsBy room before (ran key place Waits told) now
    → get now.clients key ≡ Some c → c.pending ≡ []
    → HasAnswered (terms_of terms a.number).password origin (exchanges_at key calls ++ told)
    c.stream

-- the history of the meter at a place is extended by the events of the connections there and by
-- those that it was given, in order
abbrev pub HaveTheirHistories : Type 0
HaveTheirHistories = (room place : ℕ) (calls : List FleetCall) (old new : FleetState)
    (m : MeterState) → Calls room old calls new → meter_in old.places place ≡ Some m
    → (m' : MeterState) × (meter_in new.places place ≡ Some m')
    × ExtendsHistory (told_at place calls) m m'

-- at any moment each open connection has its frames, no other has its session, at most eight are
-- open to one meter, and each meter has the history of its own calls
abbrev pub HoldsAlways : Type 0
HoldsAlways = (terms : FleetTerms) (room count : ℕ) (calls : List FleetCall)
    (first now : FleetState) → IsNewFleet terms count first → Calls room first calls now
    → Holds terms calls now

-- a meter that no call is for, and to which no connection is open, stays as it is
abbrev pub StayUnaddressed : Type 0
StayUnaddressed = (room place : ℕ) (calls : List FleetCall) (old new : FleetState)
    → Calls room old calls new
    → ((key : ℕ) (c : ClientState) → get old.clients key ≡ Some c → c.place ≢ place)
    → NoneOf (Addresses place) calls → meter_in new.places place ≡ meter_in old.places place
