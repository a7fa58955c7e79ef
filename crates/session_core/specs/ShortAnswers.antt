-- Answers that are written without memory (IEC 62056-5-3, GET, SET and ACTION).
--     is_two_bytes, is_short_answer    which values and answers are
--     is_short_reply, short_frame      to which replies, and the length of the longest frame
--     IsShortIn, AnswersIn             whether a session's answer is one that fits in a buffer
--     PutsAnswer                       a session answered in the caller's buffer
use Rattle.std.specs.Prelude.{◌≡◌, ◌≤◌, ◌+◌, ℕ, Bool, true, false, List, length}
use Rattle.cosem_axdr.specs.declared.value.Data.{Data}
use Rattle.cosem_axdr.specs.declared.value.Data.TheVariants.{Boolean, Enum}
use Rattle.relay_events.specs.declared.event.Event.{Event}
use Rattle.relay_events.specs.declared.event.Event.TheVariants as event
use Rattle.relay_events.specs.declared.reply.Reply.{Reply}
use Rattle.relay_events.specs.declared.reply.Reply.TheVariants.{Value}
use Rattle.session_core.specs.Progress.{AnswersBy}
use Rattle.session_core.specs.Rules.{reply_text}
use Rattle.session_core.specs.declared.asked.Asked.{Asked}
use Rattle.session_core.specs.declared.asked.ReplyForm.{ReplyForm}
use Rattle.session_core.specs.declared.asked.ReplyForm.TheVariants as form
use Rattle.session_core.specs.declared.session.Session.{Session}
use Rattle.session_core.specs.declared.task.SessionTask.{SessionTask}
use Rattle.session_core.specs.declared.task.SessionTask.TheVariants.{Await}
use Rattle.wrapper_frame.specs.Header.{header_size}
use Rattle.wrapper_frame.specs.Text.{IsPlaced}

-- whether the text of a Data has two bytes, tag and contents: a boolean or an enum
abbrev pub is_two_bytes : Data → Bool
is_two_bytes (Boolean is_on) = true
is_two_bytes (Enum number) = true
is_two_bytes _ = false

-- whether the answer to a reply is short: to a GET of a boolean or an enum, to a SET or an ACTION
abbrev pub is_short_answer : ReplyForm → Reply → Bool
is_short_answer (form.Get id) (Value value) = is_two_bytes value
is_short_answer (form.Set id) reply = true
is_short_answer (form.Action id) reply = true
is_short_answer _ _ = false

-- whether the answer to this reply to the event of a short request is short
abbrev pub is_short_reply : Event → Reply → Bool
is_short_reply (event.Get level attr selected) (Value value) = is_two_bytes value
is_short_reply (event.Set level attr selected value) reply = true
is_short_reply (event.Execute level method parameter) reply = true
is_short_reply _ _ = false

-- the length of the longest frame with a short answer, one to a GET: the header; C4 01, the
-- invoke-id-and-priority and 00; the two bytes of the value
abbrev pub short_frame : ℕ
short_frame = header_size + 6

-- whether the answer to a reply is short, and its frame fits in a buffer
abbrev pub IsShortIn : List ℕ → Asked → Reply → Type 0
IsShortIn buffer asked reply =
    (is_short_answer asked.form reply ≡ true) × (length (reply_text asked reply) ≤ length buffer)

-- whether a task is to await a reply whose answer is short and fits in a buffer
abbrev pub AwaitsIn : List ℕ → SessionTask → Reply → Type 0
AwaitsIn buffer (Await asked) reply = IsShortIn buffer asked reply
AwaitsIn buffer _ reply = ⊥

-- whether the session's answer to a reply is short and fits in a buffer
abbrev pub AnswersIn : List ℕ → Session → Reply → Type 0
AnswersIn buffer s reply = AwaitsIn buffer s.task reply

-- whether the session took in the reply, and its answer is at the front of the buffer
pub record PutsAnswer (old : Session) (reply : Reply) (buffer : List ℕ) (count : ℕ)
    (new : Session) (buffer' : List ℕ) : Type 0 where
  pub text : List ℕ
  pub answers : AnswersBy old reply text new
  pub placed : IsPlaced text count buffer buffer'
