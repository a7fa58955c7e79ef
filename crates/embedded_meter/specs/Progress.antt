-- How the calls of a session change what the session will still do.
--     Owes         all that a session with this password does, whatever its input is
--     Feeds        bytes arrived
--     Finishes     the input ended
--     Advances     the meter applied events, and frames were returned
--     IsIdle       nothing is to be asked or sent until more input arrives, which may come
--     IsOver       the session is over
--     GivesNext    what `next` did and returned
--     GivesAtMost  the length of the frame that `next` returned
use Rattle.std.specs.Prelude.{◌≡◌, ◌<◌, ◌≤◌, ⊤, ◌++◌, ℕ, true, false, List, [], ◌∷◌, length, drop, Result, Ok, Err}
use Rattle.relay_core.specs.World.{World}
use Rattle.relay_events.specs.declared.reply.Reply.{Reply}
use Rattle.relay_recorder.specs.Histories.{Exchange, StandsForHistory, events_of, replies_of}
use Rattle.relay_recorder.specs.Recording.{Recording}
use Rattle.session_core.specs.Backwards.{Asks, Answers, end_of}
use Rattle.session_core.specs.Ends.{EndsWithInput}
use Rattle.session_core.specs.declared.end.SessionEnd.{SessionEnd}
use Rattle.embedded_meter.specs.Dialogues.{Dialogue, asks_ahead, sends_ahead, ends_ahead, has_ended}
use Rattle.embedded_meter.specs.declared.given.Given.{Given}
use Rattle.embedded_meter.specs.declared.given.Given.TheVariants.{Frame, NoRoom, Wait, End}
use Rattle.embedded_meter.specs.declared.pending.Pending.TheVariants.{Due}

-- whether a session has yet to do all that a session with this password does, whatever its input is
pub record Owes (password : List ℕ) (d : Dialogue) : Type 0 where
  pub asks : (input : List ℕ) → asks_ahead d input ≡ Asks password input
  pub sends : (input : List ℕ) (replies : List Reply)
      → sends_ahead d input replies ≡ Answers password input replies
  pub ends : (input : List ℕ) → ends_ahead d input ≡ end_of input
  pub goes_on : has_ended d ≡ false

-- whether a session received bytes: they are the first of its remaining input
pub record Feeds (old : Dialogue) (bytes : List ℕ) (new : Dialogue) : Type 0 where
  pub asks : (more : List ℕ) → asks_ahead new more ≡ asks_ahead old (bytes ++ more)
  pub sends : (more : List ℕ) (replies : List Reply)
      → sends_ahead new more replies ≡ sends_ahead old (bytes ++ more) replies
  pub ends : (more : List ℕ) → ends_ahead new more ≡ ends_ahead old (bytes ++ more)
  pub ended : has_ended new ≡ has_ended old

-- whether the input of a session ended: no bytes remain
pub record Finishes (old new : Dialogue) : Type 0 where
  pub asks : (more : List ℕ) → asks_ahead new more ≡ asks_ahead old []
  pub sends : (more : List ℕ) (replies : List Reply)
      → sends_ahead new more replies ≡ sends_ahead old [] replies
  pub ends : (more : List ℕ) → ends_ahead new more ≡ ends_ahead old []
  pub ended : has_ended new ≡ true

-- Whether the meter applied events of a session, and these frames were returned. The events are the
-- first of the remaining ones, in order, each once and with the reply that the meter's history
-- determines. The frames are the first of those that remain for these replies. Everything else
-- still remains to be done.
pub record Advances (old : Dialogue) (r : Recording) (given : List (List ℕ)) (new : Dialogue)
    (r' : Recording) : Type 0 where
  pub told : List Exchange
  pub histories : (history : List Exchange) (origin : World) → StandsForHistory r history origin
      → StandsForHistory r' (history ++ told) origin
  pub capacity : r'.capacity ≡ r.capacity
  pub asks : (more : List ℕ) → asks_ahead old more ≡ events_of told ++ asks_ahead new more
  pub sends : (more : List ℕ) (later : List Reply)
      → sends_ahead old more (replies_of told ++ later) ≡ given ++ sends_ahead new more later
  pub ends : (more : List ℕ) → ends_ahead old more ≡ ends_ahead new more
  pub ended : has_ended new ≡ has_ended old

-- whether a session has nothing to ask or to send until more input arrives, and its input may
-- continue: it has not ended, and has no wrong header so far
pub record IsIdle (d : Dialogue) : Type 0 where
  pub asks : asks_ahead d [] ≡ []
  pub sends : (replies : List Reply) → sends_ahead d [] replies ≡ []
  pub ends : EndsWithInput (ends_ahead d [])
  pub goes_on : has_ended d ≡ false

-- whether a session is over with this end, and does nothing more
pub record IsOver (end : SessionEnd) (d : Dialogue) : Type 0 where
  pub asks : (more : List ℕ) → asks_ahead d more ≡ []
  pub sends : (more : List ℕ) (replies : List Reply) → sends_ahead d more replies ≡ []
  pub ends : (more : List ℕ) → ends_ahead d more ≡ end

-- whether a frame of `count` bytes was returned: it is at the start of the buffer, and the rest of
-- the buffer is unchanged
pub record GivesFrame (old : Dialogue) (r : Recording) (buffer : List ℕ) (count : ℕ)
    (new : Dialogue) (r' : Recording) (buffer' : List ℕ) : Type 0 where
  pub frame : List ℕ
  pub advances : Advances old r (frame ∷ []) new r'
  pub counted : count ≡ length frame
  pub written : buffer' ≡ frame ++ drop count buffer

-- whether the frame that must be sent has `count` bytes and is longer than the buffer
pub record KeepsFrame (count : ℕ) (buffer : List ℕ) (d : Dialogue) : Type 0 where
  pub frame : List ℕ
  pub due : d.pending ≡ Due frame
  pub counted : count ≡ length frame
  pub longer : length buffer < count

-- whether `next` returned this and changed session, meter and buffer accordingly
abbrev pub GivesNext : Dialogue → Recording → List ℕ → Given → Dialogue → Recording → List ℕ
    → Type 0
GivesNext old r buffer (Frame count) new r' buffer' = GivesFrame old r buffer count new r' buffer'
GivesNext old r buffer (NoRoom count) new r' buffer' = Advances old r [] new r'
    × KeepsFrame count buffer new × (buffer' ≡ buffer)
GivesNext old r buffer Wait new r' buffer' = Advances old r [] new r' × IsIdle new × (buffer'
    ≡ buffer)
GivesNext old r buffer (End end) new r' buffer' = Advances old r [] new r' × IsOver end new
    × (buffer' ≡ buffer)

-- whether `next` had this result; out of memory no frame was returned, and whatever was done stays
-- done
abbrev pub GivesNextBy : {E : Type 0} → Dialogue → Recording → List ℕ → Result Given E → Dialogue
    → Recording → List ℕ → Type 0
GivesNextBy old r buffer (Ok given) new r' buffer' = GivesNext old r buffer given new r' buffer'
GivesNextBy old r buffer (Err error) new r' buffer' = Advances old r [] new r' × (buffer' ≡ buffer)

-- whether the frame of this result has at most `limit` bytes, whether it was copied or found the
-- buffer too short
abbrev pub GivesAtMost : ℕ → Given → Type 0
GivesAtMost limit (Frame count) = count ≤ limit
GivesAtMost limit (NoRoom count) = count ≤ limit
GivesAtMost limit _ = ⊤
