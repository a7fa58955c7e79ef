-- Frames taken one after the other, with a state that each frame changes.
--     asks_along       the events of the frames
--     answers_along    the bytes of the answers, for the replies to the events
use Rattle.std.specs.Prelude.{ℕ, Option, Some, None, option_to_list, List, [], ◌∷◌, ◌++◌}
use Rattle.relay_events.specs.declared.event.Event.{Event}
use Rattle.relay_events.specs.declared.reply.Reply.{Reply}
use Rattle.session_core.specs.Answers.{answer_text, due_text}
use Rattle.session_core.specs.Outcome.{Outcome, asks, says}
use Rattle.session_core.specs.Rules.{reply_text}
use Rattle.wrapper_frame.specs.declared.parts.Frame.{Frame}

-- the events of the frames, each by the state before it
abbrev pub asks_along : {S : Type 0} → (S → Frame → Option Event) → (S → Frame → S) → S → List Frame
    → List Event
asks_along event_at next s [] = []
asks_along event_at next s (f ∷ fs) =
    option_to_list (event_at s f) ++ asks_along event_at next (next s f) fs

-- the texts from an outcome on, up to the first event without a reply
abbrev pub answers_from : Outcome → (Option Reply → List Reply → List (List ℕ)) → List Reply
    → List (List ℕ)
answers_from (says to answer) later replies = due_text to (answer_text answer) ∷ later None replies
answers_from (asks event asked) later [] = []
answers_from (asks event asked) later (reply ∷ replies) =
    reply_text asked reply ∷ later (Some reply) replies

-- the texts of the answers to the frames, each by the state before it
abbrev pub answers_along : {S : Type 0} → (S → Frame → Outcome) → (S → Frame → Option Reply → S) → S
    → List Frame → List Reply → List (List ℕ)
answers_along outcome next s [] replies = []
answers_along outcome next s (f ∷ fs) replies =
    answers_from (outcome s f) (λ reply rest. answers_along outcome next (next s f reply) fs rest)
    replies
