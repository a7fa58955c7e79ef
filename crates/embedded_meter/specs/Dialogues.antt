-- A session with what is pending between it and the meter.
--     Dialogue       the two
--     asks_ahead     the events still to be applied, for every rest of the input
--     sends_ahead    the frames still to be sent, for every rest of the input and all replies
--     ends_ahead     how the session will end, for every rest of the input
--     has_ended      whether the input has ended
--     PendsAtMost    the length of a pending frame
--     IsDialogue     the session awaits a reply exactly if an event or its reply is pending, and a
--                    pending frame is within the limit
use Rattle.std.specs.Prelude.{◌≡◌, ◌≤◌, ⊤, ℕ, Bool, true, false, List, ◌∷◌, length}
use Rattle.relay_events.specs.declared.event.Event.{Event}
use Rattle.relay_events.specs.declared.reply.Reply.{Reply}
use Rattle.session_core.specs.Remaining.{still_asks, still_sends, still_ends, is_asking, is_finished}
use Rattle.session_core.specs.Standard.{greatest_frame}
use Rattle.session_core.specs.declared.end.SessionEnd.{SessionEnd}
use Rattle.session_core.specs.declared.session.Session.{Session}
use Rattle.embedded_meter.specs.declared.pending.Pending.{Pending}
use Rattle.embedded_meter.specs.declared.pending.Pending.TheVariants.{Nothing, Asked, Answered, Due}

-- a session, and what is pending
pub record Dialogue : Type 0 where
  pub session : Session
  pub pending : Pending

-- the pending event comes before those of the session
abbrev pub asks_first : Pending → List Event → List Event
asks_first Nothing events = events
asks_first (Asked event) events = event ∷ events
asks_first (Answered reply) events = events
asks_first (Due frame) events = events

-- the pending reply comes before later ones; the pending frame is sent before those of the session
abbrev pub sends_first : Pending → (List Reply → List (List ℕ)) → List Reply → List (List ℕ)
sends_first Nothing sends replies = sends replies
sends_first (Asked event) sends replies = sends replies
sends_first (Answered reply) sends replies = sends (reply ∷ replies)
sends_first (Due frame) sends replies = frame ∷ sends replies

-- the events that are still to be applied
abbrev pub asks_ahead : Dialogue → List ℕ → List Event
asks_ahead d more = asks_first d.pending (still_asks d.session more)

-- the frames that are still to be sent
abbrev pub sends_ahead : Dialogue → List ℕ → List Reply → List (List ℕ)
sends_ahead d more = sends_first d.pending (still_sends d.session more)

-- how the session will end
abbrev pub ends_ahead : Dialogue → List ℕ → SessionEnd
ends_ahead d more = still_ends d.session more

-- whether the input of the session has ended
abbrev pub has_ended : Dialogue → Bool
has_ended d = is_finished d.session

-- whether the session awaits a reply
abbrev pub awaits_reply : Pending → Bool
awaits_reply Nothing = false
awaits_reply (Asked event) = true
awaits_reply (Answered reply) = true
awaits_reply (Due frame) = false

-- whether the pending frame, if there is one, has at most `limit` bytes
abbrev pub PendsAtMost : ℕ → Pending → Type 0
PendsAtMost limit (Due frame) = length frame ≤ limit
PendsAtMost limit _ = ⊤

-- whether the invariant of a dialogue holds: the session awaits a reply exactly if an event or its
-- reply is pending, and a pending frame is at most as long as the longest frame of a session
pub record IsDialogue (d : Dialogue) : Type 0 where
  pub agrees : is_asking d.session ≡ awaits_reply d.pending
  pub within_max : PendsAtMost greatest_frame d.pending
