-- The session defined by the state that it keeps from one frame to the next.
use Rattle.std.specs.Prelude.{ℕ, Option, None, List}
use Rattle.relay_events.specs.declared.event.Event.{Event}
use Rattle.relay_events.specs.declared.reply.Reply.{Reply}
use Rattle.session_core.specs.Outcome.{turn_event}
use Rattle.session_core.specs.Rules.{turn_of, link_after, incoming_after, outcome_at, state_after}
use Rattle.session_core.specs.Walks.{asks_along, answers_along}
use Rattle.session_core.specs.declared.incoming.Incoming.{Incoming}
use Rattle.session_core.specs.declared.link.Link.{Link}
use Rattle.session_core.specs.declared.state.State.{State}
use Rattle.wrapper_frame.specs.declared.parts.Frame.{Frame}

-- The part of the state that determines the events: the association and the long SET or ACTION.
pub record Known : Type 0 where
  pub link : Option Link
  pub incoming : Option Incoming

-- the event of a frame, if it has one
abbrev pub event_at : List ℕ → Known → Frame → Option Event
event_at password k f = turn_event (turn_of password k.link k.incoming f)

-- that part of the state after a frame
abbrev pub known_after : List ℕ → Known → Frame → Known
known_after password k f =
    record { link = link_after password f k.link; incoming = incoming_after k.link f k.incoming }

-- that part of a state
abbrev pub known_in : State → Known
known_in s = record { link = s.link; incoming = s.incoming }

-- the state of a new session
abbrev pub new_state : State
new_state = record { link = None; incoming = None; outgoing = None }

-- the events of the frames from here on
abbrev pub asks_on : List ℕ → Known → List Frame → List Event
asks_on password = asks_along (event_at password) (known_after password)

-- the answers to the frames from here on
abbrev pub answers_on : List ℕ → State → List Frame → List Reply → List (List ℕ)
answers_on password = answers_along (outcome_at password) (state_after password)
