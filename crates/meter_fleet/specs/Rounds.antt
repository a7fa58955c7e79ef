-- The rounds of a fleet's loop.
--     Departure       what became of a connection that was idle for too long
--     Arrival         what became of a client
--     Service         what became of a connection that was ready
--     ServesAll       connections were served
--     Round           a round: what the network reported, and what became of it
--     DoesRound       the effect of a round
--     ServesUntil     all rounds, up to the fault that ended them
use Rattle.std.specs.Prelude.{◌≡◌, ◌⊎◌, ◌++◌, ◌==◌, ◌&&◌, ◌||◌, not, true, false, if◌then◌else◌, ℕ}
use Rattle.std.specs.Prelude.{Bool, List, [], ◌∷◌, Option, Some, None, Result, Ok, Err, length, map}
use Rattle.std.specs.List.{flat_map}
use Rattle.relay_recorder.specs.Histories.{Exchange}
use Rattle.fleet_links.specs.Addresses.{meter_of}
use Rattle.fleet_links.specs.Streams.{StreamState}
use Rattle.fleet_links.specs.declared.link.LinkEnd.{LinkEnd}
use Rattle.fleet_links.specs.declared.link.Turn.TheVariants.{Waits, Again, Over}
use Rattle.fleet_meters.specs.Fleets.{FleetState, IsNewFleet}
use Rattle.fleet_meters.specs.declared.place.Refusal.{Refusal}
use Rattle.fleet_meters.specs.declared.terms.FleetTerms.{FleetTerms}
use Rattle.fleet_meters.specs.Calls.{FleetCall, admitted, ran, closed, missed, Calls, AreGiven}
use Rattle.meter_fleet.specs.Networks.{NetworkEvent, polled, failed, operated, accepted}
use Rattle.meter_fleet.specs.Networks.{rejected, no_client}
use Rattle.meter_fleet.specs.Networks.{Tells}
use Rattle.meter_fleet.specs.declared.serving.FleetFault.{FleetFault}
use Rattle.meter_fleet.specs.declared.serving.FleetFault.TheVariants.{Network, Memory}

-- the size of the buffer for frames: a header of 8 bytes and a payload of at most 65,535 bytes
abbrev pub frame_bytes : ℕ
frame_bytes = 65543

-- the maximum number of clients that are accepted in a round
abbrev pub max_accepted : ℕ
max_accepted = 4096

-- ---- idle connections

-- A connection that was idle for too long, by its key: it was closed, or there is none.
pub data Departure : Type 0 where
  left : ℕ → Departure
  vacant : ℕ → Departure

-- its key
abbrev pub departure_key : Departure → ℕ
departure_key (left key) = key
departure_key (vacant key) = key

-- the call for it
abbrev pub departure_calls : Departure → List FleetCall
departure_calls (left key) = closed key ∷ []
departure_calls (vacant key) = missed key ∷ []

-- whether the connections with these keys were closed, in order
pub record ClosesKeys (old : FleetState) (keys : List ℕ) (new : FleetState) : Type 0 where
  pub departures : List Departure
  pub keys_are : map departure_key departures ≡ keys
  pub calls : Calls frame_bytes old (flat_map departure_calls departures) new

-- ---- clients

-- A client that was accepted under a key, with the address that it named, its stream, and the
-- reason why its meter refused it, if it did; or a client that the network closed at once.
pub data Arrival : Type 0 where
  client : ℕ → List ℕ → StreamState → Option Refusal → Arrival
  gone : Arrival

-- the network's report of a client that arrived
abbrev pub arrival_event : Arrival → NetworkEvent
arrival_event (client key address stream refusal) = accepted key address stream
arrival_event gone = rejected

-- A client asks for the meter that its address means, and is admitted under the key that the
-- network reports its connection with. If there is no such meter, there is no call, and the stream
-- is dropped.
abbrev pub admission : ℕ → StreamState → Option Refusal → Option ℕ → List FleetCall
admission key stream refusal None = []
admission key stream None (Some number) = admitted number stream (Ok key) ∷ []
admission key stream (Some refusal) (Some number) = admitted number stream (Err refusal) ∷ []

-- the calls of the fleet for a client that arrived
abbrev pub arrival_calls : Arrival → List FleetCall
arrival_calls (client key address stream refusal) = admission key stream refusal (meter_of address)
arrival_calls gone = []

-- the reports of the clients that were accepted, until none was waiting or the maximum was reached
abbrev pub arrival_events : List Arrival → Bool → List NetworkEvent
arrival_events arrivals has_more =
    map arrival_event arrivals ++ (if has_more then [] else no_client ∷ [])

-- the reports of clients, if some may be waiting
abbrev pub client_events : Bool → List Arrival → Bool → List NetworkEvent
client_events true arrivals has_more = arrival_events arrivals has_more
client_events false arrivals has_more = []

-- whether clients were accepted only if some may be waiting, and more may be waiting only after the
-- maximum
abbrev pub AreAccepted : Bool → List Arrival → Bool → Type 0
AreAccepted true arrivals has_more = has_more ≡ true → length arrivals ≡ max_accepted
AreAccepted false arrivals has_more = (arrivals ≡ []) × (has_more ≡ false)

-- whether the clients that were waiting were accepted, up to the maximum
pub record AcceptsClients (is_due : Bool) (log : Option (List NetworkEvent)) (old : FleetState)
    (has_more : Bool) (log' : Option (List NetworkEvent)) (new : FleetState) : Type 0 where
  pub arrivals : List Arrival
  pub told : Tells log (client_events is_due arrivals has_more) log'
  pub met : AreAccepted is_due arrivals has_more
  pub calls : Calls frame_bytes old (flat_map arrival_calls arrivals) new

-- whether the network was asked for one client: if there was one, the fleet admitted or refused it;
-- if there was none, the fleet is unchanged
abbrev pub AcceptsOne : Option (List NetworkEvent) → FleetState → Bool → Option (List NetworkEvent)
    → FleetState → Type 0
AcceptsOne log old true log' new = (arrival : Arrival) × Tells log (arrival_event arrival ∷ []) log'
    × Calls frame_bytes old (arrival_calls arrival) new
AcceptsOne log old false log' new = Tells log (no_client ∷ []) log' × (new ≡ old)

-- Whether a client asked for the meter with this number. The meter admits it under this key or
-- refuses it; without a number there is no call.
abbrev pub AdmitsAt : FleetState → ℕ → StreamState → Option ℕ → FleetState → Type 0
AdmitsAt old key stream number new = (refusal : Option Refusal)
    × Calls frame_bytes old (admission key stream refusal number) new

-- ---- connections

-- A connection that was ready, by its key: there is none; its stream blocked; it may continue at
-- once; or it was over. The number after a key is the place of its meter, which applied these
-- events.
pub data Service : Type 0 where
  absent : ℕ → Service
  idle : ℕ → ℕ → List Exchange → Service
  busy : ℕ → ℕ → List Exchange → Service
  over : ℕ → ℕ → LinkEnd → List Exchange → Service

-- the key of a connection that was ready
abbrev pub service_key : Service → ℕ
service_key (absent key) = key
service_key (idle key place told) = key
service_key (busy key place told) = key
service_key (over key place end told) = key

-- the calls of the fleet for a connection that was ready: it runs, and is closed if it is over
abbrev pub service_calls : Service → List FleetCall
service_calls (absent key) = missed key ∷ []
service_calls (idle key place told) = ran key place Waits told ∷ []
service_calls (busy key place told) = ran key place Again told ∷ []
service_calls (over key place end told) = ran key place (Over end) told ∷ closed key ∷ []

-- the key of a connection that was served, if it may continue at once
abbrev pub key_again : Service → List ℕ
key_again (absent key) = []
key_again (idle key place told) = []
key_again (busy key place told) = key ∷ []
key_again (over key place end told) = []

-- whether the connections with these keys were served, in order; those in `again` may continue at
-- once
pub record ServesKeys (old : FleetState) (keys again : List ℕ) (new : FleetState) : Type 0 where
  pub services : List Service
  pub keys_are : map service_key services ≡ keys
  pub again_are : flat_map key_again services ≡ again
  pub calls : Calls frame_bytes old (flat_map service_calls services) new

-- whether only the first of the connections with these keys were served
pub record StopsAfter (old : FleetState) (keys : List ℕ) (new : FleetState) : Type 0 where
  pub done : List ℕ
  pub left : List ℕ
  pub again : List ℕ
  pub split : done ++ left ≡ keys
  pub serves : ServesKeys old done again new

-- whether the connections with these keys were served in order, or memory ran out after the first
-- of them
abbrev pub ServesAll : FleetState → List ℕ → Result Unit FleetFault → List ℕ → FleetState → Type 0
ServesAll old keys (Ok done) again new = ServesKeys old keys again new
ServesAll old keys (Err (Network why)) again new = ⊥
ServesAll old keys (Err Memory) again new = StopsAfter old keys new

-- whether the connections with these keys were served in order, and the keys of those that may
-- continue at once were appended to `next`; or memory ran out after the first of them
abbrev pub ServesMore : FleetState → List ℕ → List ℕ → Result Unit FleetFault → List ℕ → FleetState
    → Type 0
ServesMore old keys next (Ok done) next' new = (again : List ℕ) × ServesKeys old keys again new
    × (next' ≡ next ++ again)
ServesMore old keys next (Err fault) next' new = ServesAll old keys (Err fault) next' new

-- ---- rounds

-- A round: the connections that were reported ready, those that were reported idle for too long,
-- and whether clients were reported; what became of each idle connection; the events that meters
-- were given for the operator; what became of each client that was accepted, and whether more may
-- be waiting; and what became of each connection that was ready.
pub record Round : Type 0 where
  pub keys : List ℕ
  pub idle : List ℕ
  pub has_clients : Bool
  pub departures : List Departure
  pub given : List FleetCall
  pub arrivals : List Arrival
  pub has_more : Bool
  pub services : List Service

-- the calls of the fleet in a round, in order
abbrev pub round_calls : Round → List FleetCall
round_calls round = flat_map departure_calls round.departures ++ round.given
    ++ flat_map arrival_calls round.arrivals ++ flat_map service_calls round.services

-- The state of the loop between two rounds: what the network has reported, the fleet, the
-- connections that may continue at once, and whether clients may be waiting.
pub record LoopState : Type 0 where
  pub log : Option (List NetworkEvent)
  pub fleet : FleetState
  pub ready : List ℕ
  pub has_clients : Bool

-- whether the loop may block in the network: no connection is ready and no client may be waiting
abbrev pub may_wait : LoopState → Bool
may_wait s = (length s.ready == 0) && not s.has_clients

-- Whether this work of a round was done, up to the connections that are left. Those that were
-- reported idle for too long are closed, and no others; meters are given events for the operator;
-- clients are accepted if some may be waiting; and then the connections that could continue and
-- those that were reported ready are served, in order. No other calls change the fleet.
pub record DoesWork (old : LoopState) (round : Round) (left : List ℕ)
    (log : Option (List NetworkEvent)) (fleet : FleetState) : Type 0 where
  pub told : Tells old.log (polled (may_wait old) round.keys round.idle round.has_clients
      ∷ operated ∷ client_events (old.has_clients || round.has_clients) round.arrivals
      round.has_more) log
  pub lapsed : map departure_key round.departures ≡ round.idle
  pub gives : AreGiven round.given
  pub met : AreAccepted (old.has_clients || round.has_clients) round.arrivals round.has_more
  pub served : map service_key round.services ++ left ≡ old.ready ++ round.keys
  pub calls : Calls frame_bytes old.fleet (round_calls round) fleet

-- whether a whole round of the loop was done
pub record DoesRound (old : LoopState) (round : Round) (new : LoopState) : Type 0 where
  pub works : DoesWork old round [] new.log new.fleet
  pub goes_on : flat_map key_again round.services ≡ new.ready
  pub has_more : round.has_more ≡ new.has_clients

-- Whether a round ended with this fault. If the network failed, the fleet is unchanged, and the
-- fault is the network's. If memory ran out, it did so before the round, or with some of the
-- round's connections left.
abbrev pub FailsBy : LoopState → FleetFault → Option (List NetworkEvent) → FleetState → Type 0
FailsBy old (Network why) log fleet = Tells old.log (failed (may_wait old) why ∷ []) log
    × (fleet ≡ old.fleet)
FailsBy old Memory log fleet = ((log ≡ old.log) × (fleet ≡ old.fleet))
    ⊎ ((round : Round) × (left : List ℕ) × DoesWork old round left log fleet)

-- whether one round of the loop has this result: a whole round was done, or it failed
abbrev pub RoundBy : LoopState → Result Unit FleetFault → LoopState → Type 0
RoundBy old (Ok done) new = (round : Round) × DoesRound old round new
RoundBy old (Err fault) new = FailsBy old fault new.log new.fleet

-- whether several rounds were done, in order
abbrev pub DoesRounds : LoopState → List Round → LoopState → Type 0
DoesRounds old [] new = new ≡ old
DoesRounds old (round ∷ rounds) new = (between : LoopState) × DoesRound old round between
    × DoesRounds between rounds new

-- a loop that has not begun
abbrev pub start_of : Option (List NetworkEvent) → FleetState → LoopState
start_of log fleet = record { log = log; fleet = fleet; ready = []; has_clients = false }

-- whether the loop did some rounds, and failed in the next
pub record ServesUntil (log : Option (List NetworkEvent)) (fleet : FleetState) (fault : FleetFault)
    (log' : Option (List NetworkEvent)) (fleet' : FleetState) : Type 0 where
  pub rounds : List Round
  pub last : LoopState
  pub does : DoesRounds (start_of log fleet) rounds last
  pub fails : FailsBy last fault log' fleet'

-- whether a new fleet of meters with these terms was served
pub record ServesFleet (terms : FleetTerms) (count : ℕ) (log : Option (List NetworkEvent))
    (fault : FleetFault) (log' : Option (List NetworkEvent)) : Type 0 where
  pub first : FleetState
  pub final : FleetState
  pub new : IsNewFleet terms count first
  pub serves : ServesUntil log first fault log' final

-- whether serving a new fleet ended with this fault; if memory ran out, it may have done so before
-- there was a fleet
abbrev pub ServesBy : FleetTerms → ℕ → Option (List NetworkEvent) → FleetFault
    → Option (List NetworkEvent) → Type 0
ServesBy terms count log (Network why) log' = ServesFleet terms count log (Network why) log'
ServesBy terms count log Memory log' = (log' ≡ log) ⊎ ServesFleet terms count log Memory log'
