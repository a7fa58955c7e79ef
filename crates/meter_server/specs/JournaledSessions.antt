-- Sessions of a server whose meter may have a journal.
--     client_terms    the terms on which a client is served
--     client_steps    a step of a client's port
--     steps_by        a step of a client's port, by these terms
--     AreAnswered     the calls of a session, of which all but at most the last were answered
--                     from a front of the history that is on the disk
--     AnswersCalls    the new calls of a port, answered in this way
use Rattle.std.specs.Prelude.{◌≡◌, ℕ, zero, suc, ◌<◌, ◌≤◌, List, [], ◌∷◌, ◌++◌, length}
use Rattle.std.specs.Prelude.{Option, Some, None, is_some, if◌then◌else◌, Result}
use Rattle.meter_server.specs.Journaled.{IsOnDisk, JournalSteps}
use Rattle.meter_server.specs.Ports.{PortSteps}
use Rattle.shared_meter.specs.Handed.{MeterPort}
use Rattle.relay_events.specs.declared.event.Event.{Event}
use Rattle.relay_events.specs.declared.reply.Reply.{Reply}
use Rattle.shared_meter.specs.Calls.{Calls}
use Rattle.turn_lock.specs.History.{StartsWith, calls_by}
use Rattle.turn_lock.specs.declared.call_fault.CallFault.{CallFault}

-- the terms on which a client is served: 1 if the meter has a journal, and 0 if it has none; then
-- the password of the management client
abbrev pub client_terms : {D : Type 0} → Option D → List ℕ → List ℕ
client_terms journal password = (if is_some journal then 1 else 0) ∷ password

-- whether a call through a client's port had this result; if the meter has a journal, the port
-- waits for it
abbrev pub client_steps : {D : Type 0} → (IsDurable : Calls → ℕ → Type 0) → (HasEnded : Type 0)
    → (WasRunning : MeterPort → Type 0) → Option D → MeterPort → Event → Result Reply CallFault
    → MeterPort → Type 0
client_steps IsDurable HasEnded WasRunning None = PortSteps
client_steps IsDurable HasEnded WasRunning (Some journal) =
    JournalSteps IsDurable HasEnded WasRunning

-- whether a call through a client's port had this result, by the terms on which the client is
-- served
abbrev pub steps_by : (IsDurable : Calls → ℕ → Type 0) → (HasEnded : Type 0)
    → (WasRunning : MeterPort → Type 0) → (terms : List ℕ) → MeterPort → Event
    → Result Reply CallFault → MeterPort → Type 0
steps_by IsDurable HasEnded WasRunning [] = PortSteps
steps_by IsDurable HasEnded WasRunning (zero ∷ password) = PortSteps
steps_by IsDurable HasEnded WasRunning (suc n ∷ password) =
    JournalSteps IsDurable HasEnded WasRunning

-- Whether all calls of a port, except at most the last, were answered from the disk. In the
-- history, the calls of the port with this number are the earlier ones, then some that were
-- answered, and at most one that was not. A front of the same history has the earlier and the
-- answered ones as the calls of this port. If any was answered, the lines of that front are on the
-- disk, as lines of this history.
pub record AreAnswered (IsDurable : Calls → ℕ → Type 0) (number : List ℕ) (earlier history : Calls)
    : Type 0 where
  pub answered : Calls
  pub unanswered : Calls
  pub all : calls_by number history ≡ (earlier ++ answered) ++ unanswered
  pub most : length unanswered ≤ 1
  pub front : Calls
  pub begins : StartsWith history front
  pub entered : calls_by number front ≡ earlier ++ answered
  pub on_disk : 0 < length answered → IsOnDisk IsDurable history front

-- whether the new calls of a port were answered once they were on the disk
abbrev pub AnswersCalls : (IsDurable : Calls → ℕ → Type 0) → (p q : MeterPort) → Type 0
AnswersCalls IsDurable p q = AreAnswered IsDurable p.known.number
    (calls_by p.known.number p.known.seen) q.known.seen
