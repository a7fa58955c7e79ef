-- How each call changes what a session has yet to ask and to send.
--     Owes          a new session has everything to do that a session of its input does
--     Feeds         bytes are now the first of the coming input
--     Finishes      no more bytes will come
--     Steps         events and texts are removed from the front
--     Takes         a reply is the first of the coming replies
--     AnswersBy     as in Takes, and then its answer is removed from the front
--     AsksShort     the event removed from the front is that of a short request
--     Leaves        what the caller can rely on after each `Next`
--     SendsAtMost   the length of the frame that a call of `next` returns
use Rattle.std.specs.Prelude.{◌≡◌, ◌⊎◌, ◌<◌, ◌≤◌, ⊤, ℕ, true, false, Option, Some, None, List, [], ◌∷◌, ◌++◌, length, Result, Ok, Err}
use Rattle.relay_events.specs.declared.event.Event.{Event}
use Rattle.relay_events.specs.declared.reply.Reply.{Reply}
use Rattle.session_core.specs.Backwards.{Asks, Answers, end_of}
use Rattle.session_core.specs.Ends.{EndsWithInput}
use Rattle.session_core.specs.Remaining.{still_asks, still_sends, still_ends, is_asking, is_asking_short, reported_end, is_finished, load_of}
use Rattle.session_core.specs.declared.end.SessionEnd.{SessionEnd}
use Rattle.session_core.specs.declared.next.Next.{Next}
use Rattle.session_core.specs.declared.next.Next.TheVariants.{Ask, Send, Wait, End}
use Rattle.session_core.specs.declared.session.Session.{Session}
use Rattle.session_core.specs.declared.step.TurnStep.{TurnStep}
use Rattle.session_core.specs.declared.step.TurnStep.TheVariants as step
use Rattle.session_core.specs.declared.task.SessionTask.{SessionTask}
use Rattle.session_core.specs.declared.task.SessionTask.TheVariants as task

-- whether a session has yet to do all that a session with this password does, whatever its input is
pub record Owes (password : List ℕ) (s : Session) : Type 0 where
  pub asks : (input : List ℕ) → still_asks s input ≡ Asks password input
  pub sends : (input : List ℕ) (replies : List Reply)
      → still_sends s input replies ≡ Answers password input replies
  pub ends : (input : List ℕ) → still_ends s input ≡ end_of input
  pub silent : is_asking s ≡ false
  pub goes_on : is_finished s ≡ false

-- whether a session received bytes: they are now the first of its coming input, and nothing else
-- has changed
pub record Feeds (old : Session) (bytes : List ℕ) (new : Session) : Type 0 where
  pub asks : (more : List ℕ) → still_asks new more ≡ still_asks old (bytes ++ more)
  pub sends : (more : List ℕ) (replies : List Reply)
      → still_sends new more replies ≡ still_sends old (bytes ++ more) replies
  pub ends : (more : List ℕ) → still_ends new more ≡ still_ends old (bytes ++ more)
  pub asking : is_asking new ≡ is_asking old
  pub over : reported_end new ≡ reported_end old
  pub finished : is_finished new ≡ is_finished old

-- whether the input of a session ended: no more bytes will come, and nothing else has changed
pub record Finishes (old new : Session) : Type 0 where
  pub asks : (more : List ℕ) → still_asks new more ≡ still_asks old []
  pub sends : (more : List ℕ) (replies : List Reply)
      → still_sends new more replies ≡ still_sends old [] replies
  pub ends : (more : List ℕ) → still_ends new more ≡ still_ends old []
  pub asking : is_asking new ≡ is_asking old
  pub over : reported_end new ≡ reported_end old
  pub finished : is_finished new ≡ true

-- whether a session asked these events and sent these texts, and has yet to do the rest
pub record Steps (old : Session) (asked : List Event) (sent : List (List ℕ)) (new : Session)
    : Type 0 where
  pub asks : (more : List ℕ) → still_asks old more ≡ asked ++ still_asks new more
  pub sends : (more : List ℕ) (replies : List Reply)
      → still_sends old more replies ≡ sent ++ still_sends new more replies
  pub ends : (more : List ℕ) → still_ends old more ≡ still_ends new more
  pub finished : is_finished new ≡ is_finished old

-- whether a session took in a reply: it is now the first of the coming replies, and the session no
-- longer awaits one
pub record Takes (old : Session) (reply : Reply) (new : Session) : Type 0 where
  pub asks : (more : List ℕ) → still_asks new more ≡ still_asks old more
  pub sends : (more : List ℕ) (replies : List Reply)
      → still_sends new more replies ≡ still_sends old more (reply ∷ replies)
  pub ends : (more : List ℕ) → still_ends new more ≡ still_ends old more
  pub silent : is_asking new ≡ false
  pub finished : is_finished new ≡ is_finished old
  pub less : load_of new < load_of old

-- whether a session took in a reply, and then sent the bytes of its answer
pub record AnswersBy (old : Session) (reply : Reply) (text : List ℕ) (new : Session) : Type 0 where
  pub between : Session
  pub takes : Takes old reply between
  pub sends : Steps between [] (text ∷ []) new
  pub silent : is_asking new ≡ false
  pub less : load_of new < load_of old

-- whether the session awaits the reply to an event, and sends nothing before it
pub record IsAwaiting (s : Session) : Type 0 where
  pub asking : is_asking s ≡ true
  pub sends : (more : List ℕ) → still_sends s more [] ≡ []

-- whether the session has asked the event of a short request, and awaits the reply
pub record AsksShort (old : Session) (event : Event) (new : Session) : Type 0 where
  pub steps : Steps old (event ∷ []) [] new
  pub awaits : IsAwaiting new
  pub is_short : is_asking_short new ≡ true
  pub less : load_of new < load_of old

-- the event that a call of `next` returns, if it returns one
abbrev pub events_of_next : Next → List Event
events_of_next (Ask event) = event ∷ []
events_of_next _ = []

-- the bytes that a call of `next` returns to be sent, if it returns any
abbrev pub texts_of_next : Next → List (List ℕ)
texts_of_next (Send text) = text ∷ []
texts_of_next _ = []

-- whether the frame that a call of `next` returns, if it returns one, has at most `limit` bytes
abbrev pub SendsAtMost : ℕ → Next → Type 0
SendsAtMost limit (Send text) = length text ≤ limit
SendsAtMost limit _ = ⊤

-- whether a call of `next` removed from the front of the session's work exactly what it returned; a
-- call that runs out of memory removes nothing
abbrev pub StepsBy : {E : Type 0} → Session → Result Next E → Session → Type 0
StepsBy old (Ok next) new = Steps old (events_of_next next) (texts_of_next next) new
StepsBy old (Err error) new = Steps old [] [] new

-- whether there is nothing to ask or to send without more input, and no invalid header has arrived
pub record IsQuiet (s : Session) : Type 0 where
  pub asks : still_asks s [] ≡ []
  pub sends : (replies : List Reply) → still_sends s [] replies ≡ []
  pub ends : EndsWithInput (still_ends s [])
  pub silent : is_asking s ≡ false
  pub goes_on : is_finished s ≡ false

-- whether the session is over with this end: there is nothing left to ask or to send
pub record IsOver (end : SessionEnd) (s : Session) : Type 0 where
  pub asks : (more : List ℕ) → still_asks s more ≡ []
  pub sends : (more : List ℕ) (replies : List Reply) → still_sends s more replies ≡ []
  pub ends : (more : List ℕ) → still_ends s more ≡ end
  pub over : reported_end s ≡ Some end

-- Whether the session is as a caller may rely on after this `Next`. Asking and sending reduce the
-- session's load, so that finitely many calls return an event or a frame between two inputs.
abbrev pub Leaves : Session → Next → Session → Type 0
Leaves old (Ask event) new = IsAwaiting new × (load_of new < load_of old)
Leaves old (Send text) new = (is_asking new ≡ false) × (load_of new < load_of old)
Leaves old Wait new = ((is_asking old ≡ true) × IsAwaiting new) ⊎ IsQuiet new
Leaves old (End end) new = IsOver end new

-- whether a task was worked on with this result: it removed from the front what it returns, and its
-- load is less if there is more to do at once
abbrev pub WorksBy : {E : Type 0} → Session → Result (Option Next) E → Session → Type 0
WorksBy old (Ok None) new = Steps old [] [] new
    × ((is_asking new ≡ false) × (load_of new < load_of old))
WorksBy old (Ok (Some next)) new = Steps old (events_of_next next) (texts_of_next next) new
    × Leaves old next new
WorksBy old (Err error) new = Steps old [] [] new

-- the task that a step leads to
abbrev pub task_by : TurnStep → SessionTask
task_by (step.Ask event asked) = task.Await asked
task_by (step.Say due) = task.Say due
task_by (step.Join joined) = task.Read joined

-- what a step returns to the caller: its event, if it has one
abbrev pub next_by : TurnStep → Option Next
next_by (step.Ask event asked) = Some (Ask event)
next_by _ = None
