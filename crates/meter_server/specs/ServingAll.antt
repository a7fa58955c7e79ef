-- The effect of the server on its sources, its clients and its port.
--     Acted                 the port with a number was joined in, with these events
--     StopsFor, first_of    which fault is returned, and the order of faults
--     Accounts              what the result and the listener say of each other
--     EndsWith              the result of clients that were served in parallel with a worker, once
--                           it is joined
use Rattle.std.specs.Prelude.{◌≡◌, ⊤, ℕ, ◌+◌, ◌<◌, ◌≤◌, List, map, Option, Some, None, Result, Ok, Err}
use Rattle.std.specs.Prelude.{IfErr, IfOk}
use Rattle.session_io.specs.Settling.{fault_of}
use Rattle.session_io.specs.declared.fault.ServeFault.{ServeFault}
use Rattle.session_io.specs.declared.fault.ServeFault.TheVariants as fault
use Rattle.meter_server.specs.Listening.{HaveReasons}
use Rattle.meter_server.specs.declared.serving_all.Served.{Served}
use Rattle.shared_meter.specs.Handed.{MeterPort}
use Rattle.relay_events.specs.declared.event.Event.{Event}
use Rattle.relay_events.specs.declared.reply.Reply.{Reply}
use Rattle.port_threads.specs.Listening.{IsCounted}
use Rattle.port_threads.specs.Workers.{ReturnsPort}
use Rattle.turn_lock.specs.declared.call_fault.CallFault.{CallFault}
use Rattle.turn_lock.specs.declared.turned.Entry.{Entry}
use Rattle.turn_lock.specs.History.{IsAmong, calls_by}

-- the events of the calls of the port with this number, in order, in the history that a port has
-- seen
abbrev pub events_by : List ℕ → MeterPort → List Event
events_by number port =
    map (λ (call : Entry Event Reply). call.event) (calls_by number port.known.seen)

-- whether the port with this number was joined in, and its calls are complete
pub record Acted (port : MeterPort) (number : List ℕ) (Whole : List Event → Type 0) : Type 0 where
  pub joined : IsAmong number port.known.joined
  pub whole : Whole (events_by number port)

-- whether the number of connections has reached the limit
abbrev pub IsLimit : ℕ → Served → Type 0
IsLimit limit served = 0 < limit → served.served + served.turned_away ≡ limit

-- whether no more connections were served than ports were split off for them; and as many, if the
-- count has not saturated
pub record IsServed (splits later : ℕ) (served : Served) : Type 0 where
  pub most : splits + served.served ≤ later
  pub all : served.served < 18446744073709551615 → splits + served.served ≡ later

-- whether the port has read that all turns of the lock were drawn
abbrev pub IsSpent : MeterPort → Type 0
IsSpent port = port.bound ≤ port.known.drawn

-- whether the server may stop with this fault: out of memory, about which nothing is claimed; all
-- turns were drawn; or the listener failed
abbrev pub StopsFor : (spent failed : Type 0) → ServeFault → Type 0
StopsFor spent failed fault.Memory = ⊤
StopsFor spent failed fault.Exhausted = spent
StopsFor spent failed fault.Listen = failed
StopsFor spent failed fault.Read = ⊥
StopsFor spent failed fault.Write = ⊥
StopsFor spent failed fault.Journal = ⊥

-- What a listener has counted, if it counts: the clients that it accepted, and those of them whose
-- streams could not be set up.
pub record Counts : Type 0 where
  pub accepted : Option ℕ
  pub setup_failures : Option ℕ

-- the counts of a listener, by the ghost members of its type
abbrev pub counts_of : {L : Type 0} → (accepted setup_failures : L → Option ℕ) → L → Counts
counts_of accepted setup_failures listener =
    record { accepted = accepted listener; setup_failures = setup_failures listener }

-- Whether the result of serving accounts for the clients of a listener. Without a fault the limit
-- of connections was reached, the listener accepted as many clients as are counted, and each that
-- was turned away had a reason. A fault has its cause: `spent` for the end of turns, `failed` for
-- that of the listener.
pub record Accounts (limit : ℕ) (before after : Counts) (spent failed : Type 0)
    (result : Result Served ServeFault) : Type 0 where
  pub limited : IfOk result (IsLimit limit)
  pub counted : IfOk result
      (λ all. IsCounted before.accepted (all.served + all.turned_away) after.accepted)
  pub reasons : IfOk result (λ all. HaveReasons before.setup_failures all after.setup_failures)
  pub fault : IfErr result (StopsFor spent failed)

-- the fault of a worker: out of memory, so that its work was not started; or a refused call of the
-- meter
abbrev pub worker_fault : Option (Result (Unit {0}) CallFault) → Option ServeFault
worker_fault None = Some fault.Memory
worker_fault (Some (Ok done)) = None
worker_fault (Some (Err refused)) = Some (fault_of refused)

-- the first of the results of the clients and of a worker: out of memory, then the worker's fault,
-- then the result of the clients
abbrev pub first_of : Result Served ServeFault → Option ServeFault → Result Served ServeFault
first_of (Err fault.Memory) worker = Err fault.Memory
first_of (Err other) (Some stopped) = Err stopped
first_of (Err other) None = Err other
first_of (Ok all) (Some stopped) = Err stopped
first_of (Ok all) None = Ok all

-- whether the port that was lent to a worker was returned, and the result is the first of that of
-- the clients, served in parallel, and of the worker's
pub record EndsWith (did : MeterPort → MeterPort → Result (Unit {0}) CallFault
    → Type 0) (lent : MeterPort) (served result : Result Served ServeFault)
    (before after : MeterPort) : Type 0 where
  pub end : Option (Result (Unit {0}) CallFault)
  pub back : ReturnsPort did lent end before after
  pub first : result ≡ first_of served (worker_fault end)

-- whether `Ended` holds if no worker stopped before its source's end, so that there is no fault, or
-- only that of the listener, which is the last in order
abbrev pub OnEnded : Result Served ServeFault → Type 0 → Type 0
OnEnded (Ok all) Ended = Ended
OnEnded (Err fault.Listen) Ended = Ended
OnEnded (Err other) Ended = ⊤
