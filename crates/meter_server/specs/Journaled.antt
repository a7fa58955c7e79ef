-- A port that waits for its journal, as a meter.
--     IsOnDisk        the lines of a front of a history are on the disk
--     HasCalled       the port passed an event on and made no further call
--     IsHeldBack      the event was not passed on
--     MayPass         the event may be passed on
--     JournalSteps    a step of the port: passing an event on, and waiting
--     AreWritten      what is on the disk once replies were returned
use Rattle.std.specs.Prelude.{◌≡◌, ◌⊎◌, ℕ, false, ◌<◌, ◌≤◌, List, ◌++◌, length, take, Result, Ok}
use Rattle.std.specs.Prelude.{Err}
use Rattle.meter_server.specs.Ports.{PortSteps, entries}
use Rattle.shared_meter.specs.Handed.{MeterPort}
use Rattle.relay_events.specs.Kinds.{is_read}
use Rattle.relay_events.specs.declared.event.Event.{Event}
use Rattle.relay_events.specs.declared.reply.Reply.{Reply}
use Rattle.shared_meter.specs.Calls.{Calls, IsLegal}
use Rattle.shared_meter.specs.Pending.{lines_of_calls}
use Rattle.shared_meter.specs.Settling.{AreDurable}
use Rattle.turn_lock.specs.Calls.{Watches}
use Rattle.turn_lock.specs.History.{StartsWith, calls_by}
use Rattle.turn_lock.specs.Shown.{IsSame}
use Rattle.turn_lock.specs.declared.call_fault.CallFault.{CallFault}
use Rattle.turn_lock.specs.declared.call_fault.CallFault.TheVariants.{Memory, Exhausted, Journal}

-- whether as many lines of the history as its front has are on the disk
abbrev pub IsOnDisk : (IsDurable : Calls → ℕ → Type 0) → (history front : Calls) → Type 0
IsOnDisk IsDurable history front = AreDurable IsDurable history (length (lines_of_calls front))

-- whether the port passed the event on, had this reply, and made no further call
pub record HasCalled (p : MeterPort) (event : Event) (reply : Reply) (q : MeterPort) : Type 0 where
  pub between : MeterPort
  pub call : PortSteps p event (Ok reply) between
  pub same : IsSame between q
  pub watches : Watches IsLegal between.known q.known

-- whether an event that may change the meter was not passed on, because the journal has ended
abbrev pub IsHeldBack : (HasEnded : Type 0) → MeterPort → Event → MeterPort → Type 0
IsHeldBack HasEnded p event q = (is_read event ≡ false) × (q ≡ p) × HasEnded

-- whether an event may be passed on: it is a read, or the journal had not failed when the port
-- looked, before the call
abbrev pub MayPass : (WasRunning : MeterPort → Type 0) → MeterPort → Event → Type 0
MayPass WasRunning p event = is_read event ≡ false → WasRunning p

-- Whether a call through a port that waits for its journal had this result. After a reply, the
-- lines of all calls up to it are on the disk, as lines of the history that the port has seen. An
-- event that may change the meter is passed on only if the journal had not failed. With the fault
-- `Journal` the event was held back, or it was passed on and its reply is not returned.
abbrev pub JournalSteps : (IsDurable : Calls → ℕ → Type 0) → (HasEnded : Type 0)
    → (WasRunning : MeterPort → Type 0) → MeterPort → Event → Result Reply CallFault → MeterPort
    → Type 0
JournalSteps IsDurable HasEnded WasRunning p event (Ok reply) q =
    (called : HasCalled p event reply q)
    × IsOnDisk IsDurable q.known.seen called.between.known.seen × MayPass WasRunning p event
JournalSteps IsDurable HasEnded WasRunning p event (Err Memory) q =
    PortSteps p event (Err Memory) q
JournalSteps IsDurable HasEnded WasRunning p event (Err Exhausted) q =
    PortSteps p event (Err Exhausted) q
JournalSteps IsDurable HasEnded WasRunning p event (Err Journal) q =
    IsHeldBack HasEnded p event q
    ⊎ ((reply : Reply) × HasCalled p event reply q × MayPass WasRunning p event)

-- whether the history that port q knows begins with one that has the calls of these events, with
-- these replies, as the new calls of port p; the lines of that one are on the disk
pub record IsWritten (IsDurable : Calls → ℕ → Type 0) (p : MeterPort) (events : List Event)
    (replies : List Reply) (q : MeterPort) : Type 0 where
  pub history : Calls
  pub begins : StartsWith q.known.seen history
  pub entered : calls_by p.known.number history ≡ calls_by p.known.number p.known.seen
      ++ entries p.known.number events replies
  pub on_disk : IsOnDisk IsDurable q.known.seen history

-- whether each reply has the history up to it on the disk
abbrev pub AreWritten : (IsDurable : Calls → ℕ → Type 0) → MeterPort → List Event → List Reply
    → MeterPort → Type 0
AreWritten IsDurable p events replies q = (n : ℕ) → 0 < n → n ≤ length replies
    → IsWritten IsDurable p (take n events) (take n replies) q
