-- Calls that need no memory.
--     NeedsNoMemory     the next request of a session is short, and so is the answer to it
--     HasSureNext       an open session has such a request next
use Rattle.std.specs.Prelude.{◌≡◌, ◌≤◌, ℕ, true, Some, List, [], ◌∷◌, length}
use Rattle.relay_core.specs.Machine.{is_sure}
use Rattle.relay_events.specs.declared.event.Event.{Event}
use Rattle.relay_events.specs.declared.reply.Reply.{Reply}
use Rattle.relay_recorder.specs.Histories.{Continues}
use Rattle.relay_recorder.specs.Recording.{Recording}
use Rattle.session_core.specs.ShortAnswers.{is_short_reply, short_frame}
use Rattle.session_core.specs.ShortRequests.{HasShort}
use Rattle.embedded_meter.specs.Dialogues.{Dialogue, asks_ahead}
use Rattle.embedded_meter.specs.MeterStates.{MeterState, dialogue_at}
use Rattle.embedded_meter.specs.declared.pending.Pending.TheVariants.{Nothing}

-- Whether the next request of a session needs no memory: nothing is pending, and its first frame is
-- a short request whose event is sure. The answer to each reply that the meter may give to it is
-- short, and the buffer is long enough for it.
pub record NeedsNoMemory (d : Dialogue) (r : Recording) (buffer : List ℕ) : Type 0 where
  pub nothing : d.pending ≡ Nothing
  pub short : HasShort d.session
  pub event : Event
  pub others : List Event
  pub asked : asks_ahead d [] ≡ event ∷ others
  pub sure : is_sure event ≡ true
  pub replied : (reply : Reply) (r' : Recording) → Continues r r' event reply
      → is_short_reply event reply ≡ true
  pub room : short_frame ≤ length buffer

-- whether the session with this number is open, and its next request needs no memory
pub record HasSureNext (m : MeterState) (number : ℕ) (buffer : List ℕ) : Type 0 where
  pub dialogue : Dialogue
  pub is_open : dialogue_at m number ≡ Some dialogue
  pub needs : NeedsNoMemory dialogue m.recorder buffer
