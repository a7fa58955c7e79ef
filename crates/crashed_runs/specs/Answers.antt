-- The answers of a run that a crash ends.
--     changing_calls       the calls that may change the meter
--     AnswerSessions       the calls of each session, all but at most the last one were answered
--     HasAnsweredLines     a number of lines that includes those of each answered call
--     ContinuesAnswers     a meter that continues a front of a run with all answered calls
use Rattle.std.specs.Prelude.{ℕ, ◌<◌, ◌≤◌, not, [], ◌∷◌, filter, length}
use Rattle.crashed_runs.specs.Fronts.{ContinuesFront}
use Rattle.meter_server.specs.JournaledSessions.{AreAnswered}
use Rattle.relay_core.specs.World.{World}
use Rattle.relay_events.specs.Kinds.{is_read}
use Rattle.relay_events.specs.declared.event.Event.{Event}
use Rattle.relay_events.specs.declared.reply.Reply.{Reply}
use Rattle.shared_meter.specs.Calls.{Calls}
use Rattle.shared_meter.specs.Pending.{lines_of_calls}
use Rattle.turn_lock.specs.History.{StartsWith, calls_by}
use Rattle.turn_lock.specs.declared.turned.Entry.{Entry}

-- the calls that may change the meter
abbrev pub changing_calls : Calls → Calls
changing_calls calls = filter (λ (call : Entry Event Reply). not (is_read call.event)) calls

-- whether, in a run with this number of ports, the calls of each session, all but at most the last
-- one, were answered from a front of the run's history
abbrev pub AnswerSessions : (IsDurable : Calls → ℕ → Type 0) → (ports : ℕ) → (calls : Calls)
    → Type 0
AnswerSessions IsDurable ports calls =
    (i : ℕ) → 4 ≤ i → i < ports → AreAnswered IsDurable (i ∷ []) [] calls

-- whether a count is at least the number of lines of each front from which a session was answered
abbrev pub HasAnsweredLines : {IsDurable : Calls → ℕ → Type 0} → {ports : ℕ} → {calls : Calls}
    → AnswerSessions IsDurable ports calls → (count : ℕ) → Type 0
HasAnsweredLines {ports = ports} sessions count =
    (i : ℕ) (late : 4 ≤ i) (below : i < ports) → 0 < length (sessions i late below).answered
    → length (lines_of_calls (sessions i late below).front) ≤ count

-- Whether the meter in the second world answers as the one after the first calls of a run, which
-- have at least this number of lines. Of the calls of each session that may change the meter, all
-- that were answered are among these first calls, in their order, before any other of the session.
pub record ContinuesAnswers {IsDurable : Calls → ℕ → Type 0} {ports : ℕ} {calls : Calls}
    (sessions : AnswerSessions IsDurable ports calls) (count : ℕ) (origin resumed : World) : Type 0
  where
    pub continues : ContinuesFront count calls origin resumed
    pub answered : (i : ℕ) (late : 4 ≤ i) (below : i < ports)
        → StartsWith (changing_calls (calls_by (i ∷ []) continues.front))
        (changing_calls (sessions i late below).answered)
