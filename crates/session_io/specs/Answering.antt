-- The answer to one request (IEC 62056-5-3, GET, SET and ACTION) without a frame and without an
-- association, which this meter also accepts.
use Rattle.std.specs.Prelude.{ℕ, List}
use Rattle.relay_core.specs.Machine.{at_event}
use Rattle.relay_core.specs.World.{World, Stepped}
use Rattle.session_core.specs.Answers.{answer_text}
use Rattle.session_core.specs.Outcome.{Outcome, asks, says}
use Rattle.session_core.specs.Outgoing.{reply_response}
use Rattle.session_core.specs.Unframed.{unframed_outcome}
use Rattle.session_core.specs.declared.answer.Answer.TheVariants.{Service}
use Rattle.session_core.specs.declared.asked.Asked.{Asked}

-- An answer: the world after it, and the bytes that are sent.
pub record Answered : Type 0 where
  pub world : World
  pub text : List ℕ

-- the answer to the reply to an event
abbrev pub answer_to_reply : Asked → Stepped → Answered
answer_to_reply asked stepped =
    record {
      world = stepped.world;
      text = answer_text (Service (reply_response asked stepped.reply));
    }

-- the answer to a request, by its outcome
abbrev pub answer_by : Outcome → World → Answered
answer_by (asks event asked) w = answer_to_reply asked (at_event event w)
answer_by (says to answer) w = record { world = w; text = answer_text answer }

-- the answer to a payload
unfoldable pub answer_to_payload : List ℕ → World → Answered
answer_to_payload payload w = answer_by (unframed_outcome payload) w
