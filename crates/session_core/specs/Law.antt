-- The session defined by looking back over earlier frames is the session that keeps its state.
use Rattle.std.specs.Prelude.{◌≡◌, ℕ, List}
use Rattle.relay_events.specs.declared.reply.Reply.{Reply}
use Rattle.session_core.specs.Backwards.{Asks, Answers, to_server}
use Rattle.session_core.specs.Running.{asks_on, answers_on, known_in, new_state}
use Rattle.wrapper_frame.specs.Messages.{frames_of}

-- the events are equal
abbrev pub HasSameEvents : Type 0
HasSameEvents = (password input : List ℕ)
    → Asks password input ≡ asks_on password (known_in new_state) (to_server (frames_of input))

-- the answers are equal, for every list of replies
abbrev pub HasSameAnswers : Type 0
HasSameAnswers = (password input : List ℕ) (replies : List Reply)
    → Answers password input replies
    ≡ answers_on password new_state (to_server (frames_of input)) replies
