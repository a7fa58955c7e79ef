-- What a session has yet to do, by its state, for every continuation of its input and every list of
-- replies.
--     still_asks, still_sends, still_ends     the events, the bytes of the answers, and the end
--     is_asking .. is_idle                    what it waits for
--     load_of                                 the amount of work in its state
use Rattle.std.specs.Prelude.{ℕ, ◌+◌, ◌&&◌, not, Bool, true, false, if◌then◌else◌, Option, Some, None, option_to_list, List, [], ◌∷◌, ◌++◌, length}
use Rattle.relay_events.specs.declared.event.Event.{Event}
use Rattle.relay_events.specs.declared.reply.Reply.{Reply}
use Rattle.session_core.specs.Answers.{answer_text, due_text}
use Rattle.session_core.specs.Backwards.{to_server, end_of}
use Rattle.session_core.specs.Incoming.{whole_outcome}
use Rattle.session_core.specs.Outcome.{Outcome, asks, says, event_of}
use Rattle.session_core.specs.Outgoing.{outgoing_by}
use Rattle.session_core.specs.Rules.{asks_short, reply_text}
use Rattle.session_core.specs.Running.{known_in, asks_on, answers_on}
use Rattle.session_core.specs.Walks.{answers_from}
use Rattle.session_core.specs.declared.asked.Asked.{Asked}
use Rattle.session_core.specs.declared.end.SessionEnd.{SessionEnd}
use Rattle.session_core.specs.declared.session.Session.{Session}
use Rattle.session_core.specs.declared.state.State.{State}
use Rattle.session_core.specs.declared.task.SessionTask.{SessionTask}
use Rattle.session_core.specs.declared.task.SessionTask.TheVariants.{Listen, Read, Await, Say, Send, Over}
use Rattle.wrapper_frame.specs.Header.{head_of}
use Rattle.wrapper_frame.specs.Messages.{frames_of}
use Rattle.wrapper_frame.specs.declared.header.Head.{Head}
use Rattle.wrapper_frame.specs.declared.header.Head.TheVariants.{Part}
use Rattle.wrapper_frame.specs.declared.parts.Frame.{Frame}

-- the bytes not yet taken as frames: the pending ones, and the coming ones unless the input has
-- ended
abbrev pub bytes_ahead : Session → List ℕ → List ℕ
bytes_ahead s more = s.deframer ++ (if s.is_finished then [] else more)

-- the frames for the server in these bytes
abbrev pub frames_ahead : Session → List ℕ → List Frame
frames_ahead s more = to_server (frames_of (bytes_ahead s more))

-- ---- the events

-- the events of a task and of the frames after it
abbrev pub asks_of : List ℕ → State → SessionTask → List Frame → List Event
asks_of password state Listen fs = asks_on password (known_in state) fs
asks_of password state (Read joined) fs =
    option_to_list (event_of (whole_outcome joined)) ++ asks_on password (known_in state) fs
asks_of password state (Await asked) fs = asks_on password (known_in state) fs
asks_of password state (Say due) fs = asks_on password (known_in state) fs
asks_of password state (Send framed) fs = asks_on password (known_in state) fs
asks_of password state (Over end) fs = []

-- the events that a session has yet to ask
unfoldable pub still_asks : Session → List ℕ → List Event
still_asks s more = asks_of s.password s.state s.task (frames_ahead s more)

-- ---- the answers

-- the state after the reply to an event: with the long GET that the answer begins
abbrev pub state_after_reply : Asked → Reply → State → State
state_after_reply asked reply state =
    record { link = state.link; incoming = state.incoming; outgoing = outgoing_by asked reply }

-- the state after an outcome, and after the reply to its event
abbrev pub after_outcome : Outcome → Option Reply → State → State
after_outcome (says to answer) reply state = state
after_outcome (asks event asked) None state = state
after_outcome (asks event asked) (Some reply) state = state_after_reply asked reply state

-- the texts from an outcome on
abbrev pub texts_from : List ℕ → State → Outcome → List Frame → List Reply → List (List ℕ)
texts_from password state outcome fs replies =
    answers_from outcome
    (λ reply rest. answers_on password (after_outcome outcome reply state) fs rest) replies

-- the texts from a reply on
abbrev pub texts_after : List ℕ → State → Asked → List Frame → List Reply → List (List ℕ)
texts_after password state asked fs [] = []
texts_after password state asked fs (reply ∷ replies) =
    reply_text asked reply ∷ answers_on password (state_after_reply asked reply state) fs replies

-- the texts of a task and of the frames after it
abbrev pub texts_of : List ℕ → State → SessionTask → List Frame → List Reply → List (List ℕ)
texts_of password state Listen fs replies = answers_on password state fs replies
texts_of password state (Read joined) fs replies =
    texts_from password state (whole_outcome joined) fs replies
texts_of password state (Await asked) fs replies = texts_after password state asked fs replies
texts_of password state (Say due) fs replies =
    due_text due.to (answer_text due.answer) ∷ answers_on password state fs replies
texts_of password state (Send framed) fs replies =
    framed.text ∷ answers_on password state fs replies
texts_of password state (Over end) fs replies = []

-- the texts that a session has yet to send, up to the first event without a reply
unfoldable pub still_sends : Session → List ℕ → List Reply → List (List ℕ)
still_sends s more replies = texts_of s.password s.state s.task (frames_ahead s more) replies

-- ---- the end

-- how a session ends from a task on, if the end of its input is `end`
abbrev pub ends_of : SessionTask → SessionEnd → SessionEnd
ends_of (Over over) end = over
ends_of _ end = end

-- how the session will end
unfoldable pub still_ends : Session → List ℕ → SessionEnd
still_ends s more = ends_of s.task (end_of (bytes_ahead s more))

-- ---- what it waits for

-- whether a task is to await the reply to an event
abbrev pub is_awaiting : SessionTask → Bool
is_awaiting (Await asked) = true
is_awaiting _ = false

-- whether the reply to an event is awaited
unfoldable pub is_asking : Session → Bool
is_asking s = is_awaiting s.task

-- whether a task is to await the reply to a short request: a GET of one attribute, a SET that
-- arrived whole, or an ACTION
abbrev pub awaits_short : SessionTask → Bool
awaits_short (Await asked) = asks_short asked.form
awaits_short _ = false

-- whether the reply to a short request is awaited
unfoldable pub is_asking_short : Session → Bool
is_asking_short s = awaits_short s.task

-- the end of the session that a task reports, if the session is over
abbrev pub end_in : SessionTask → Option SessionEnd
end_in (Over end) = Some end
end_in _ = None

-- the end that the session has reported, if it is over
unfoldable pub reported_end : Session → Option SessionEnd
reported_end s = end_in s.task

-- whether the input has ended
unfoldable pub is_finished : Session → Bool
is_finished s = s.is_finished

-- whether a task is to wait for the next frame
abbrev pub is_listening : SessionTask → Bool
is_listening Listen = true
is_listening _ = false

-- whether the front of the input is an incomplete frame that is valid so far
abbrev pub is_part : Head → Bool
is_part Part = true
is_part _ = false

-- whether there is nothing to do before more input arrives
unfoldable pub is_idle : Session → Bool
is_idle s = is_listening s.task && not s.is_finished && is_part (head_of s.deframer)

-- ---- how much work is left

-- the work in a task: each task is more work than those it leads to, and a frame has more bytes
-- than its tasks are work
abbrev pub task_load : SessionTask → ℕ
task_load Listen = 0
task_load (Read joined) = 4
task_load (Await asked) = 3
task_load (Say due) = 2
task_load (Send framed) = 1
task_load (Over end) = 0

-- the work left in a session's state: its pending bytes and the work in its task
unfoldable pub load_of : Session → ℕ
load_of s = length s.deframer + task_load s.task
