-- The outcome of a frame: an event for the meter, whose reply is answered, or an answer at once.
use Rattle.std.specs.Prelude.{ℕ, Option, Some, None}
use Rattle.relay_events.specs.declared.event.Event.{Event}
use Rattle.session_core.specs.declared.answer.Answer.{Answer}
use Rattle.session_core.specs.declared.asked.Asked.{Asked}
use Rattle.xdlms_apdu.specs.declared.invoke_id.InvokeId.{InvokeId}

-- An event, with what the answer to its reply needs; or an answer, with the port that it is sent
-- to.
pub data Outcome : Type 0 where
  asks : Event → Asked → Outcome
  says : ℕ → Answer → Outcome

-- The effect of a frame as far as earlier frames determine it: an outcome, or a request for the
-- next block of a long GET, which also depends on the replies.
pub data Turn : Type 0 where
  settled : Outcome → Turn
  continues : ℕ → InvokeId → ℕ → Turn

-- the event of an outcome, if it has one
abbrev pub event_of : Outcome → Option Event
event_of (asks event asked) = Some event
event_of (says to answer) = None

-- the event of a turn, if it has one
abbrev pub turn_event : Turn → Option Event
turn_event (settled outcome) = event_of outcome
turn_event (continues to id number) = None
