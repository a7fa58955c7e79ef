-- The steps of `next`.
--     SameAhead                      what the session will still do is unchanged
--     IsAsked, IsAnswered, HasFrameDue     an event, a reply or a frame is pending
--     weight                         the amount of work that is left
--     HasNoStepLeft                  the state in which no step is left
--     GivesShortBy                   a short request, from its bytes to the frame with its answer
use Rattle.std.specs.Prelude.{◌≡◌, ◌+◌, ◌<◌, ◌++◌, ℕ, List, [], length, drop, Option, Some, None, Result, Ok, Err}
use Rattle.relay_events.specs.declared.event.Event.{Event}
use Rattle.relay_events.specs.declared.reply.Reply.{Reply}
use Rattle.relay_recorder.specs.Recording.{Recording}
use Rattle.session_core.specs.Remaining.{load_of}
use Rattle.embedded_meter.specs.Dialogues.{Dialogue, asks_ahead, sends_ahead, ends_ahead, has_ended}
use Rattle.embedded_meter.specs.Progress.{Advances, GivesNext, IsIdle, IsOver, KeepsFrame}
use Rattle.embedded_meter.specs.declared.connection.NextNeed.{NextNeed}
use Rattle.embedded_meter.specs.declared.connection.NextNeed.TheVariants as rest
use Rattle.embedded_meter.specs.declared.given.Given.{Given}
use Rattle.embedded_meter.specs.declared.given.Given.TheVariants as given
use Rattle.embedded_meter.specs.declared.pending.Pending.{Pending}
use Rattle.embedded_meter.specs.declared.pending.Pending.TheVariants.{Nothing, Asked, Answered, Due}

-- whether what a session will still do is unchanged
pub record SameAhead (old new : Dialogue) : Type 0 where
  pub asks : (more : List ℕ) → asks_ahead old more ≡ asks_ahead new more
  pub sends : (more : List ℕ) (replies : List Reply)
      → sends_ahead old more replies ≡ sends_ahead new more replies
  pub ends : (more : List ℕ) → ends_ahead old more ≡ ends_ahead new more
  pub ended : has_ended new ≡ has_ended old

-- whether an event is pending
pub record IsAsked (d : Dialogue) : Type 0 where
  pub event : Event
  pub is : d.pending ≡ Asked event

-- whether a reply is pending
pub record IsAnswered (d : Dialogue) : Type 0 where
  pub reply : Reply
  pub is : d.pending ≡ Answered reply

-- whether a frame is pending
pub record HasFrameDue (d : Dialogue) : Type 0 where
  pub frame : List ℕ
  pub is : d.pending ≡ Due frame

-- 1 if an event is pending, which is one step from its reply, otherwise 0
abbrev pub steps_in : Pending → ℕ
steps_in Nothing = 0
steps_in (Asked event) = 1
steps_in (Answered reply) = 0
steps_in (Due frame) = 0

-- the amount of work that is left: each step lowers it
abbrev pub weight : Dialogue → ℕ
weight d = load_of d.session + load_of d.session + steps_in d.pending

-- whether no step is left: a frame is pending, the session waits, or it is over
abbrev pub HasNoStepLeft : NextNeed → Dialogue → Type 0
HasNoStepLeft rest.Due d = HasFrameDue d
HasNoStepLeft rest.Wait d = IsIdle d
HasNoStepLeft (rest.End end) d = IsOver end d

-- whether the session was asked for its next event, frame or end, and returned this
abbrev pub AsksBy : {E : Type 0} → Dialogue → Result (Option NextNeed) E → Dialogue → Type 0
AsksBy old (Ok None) new = SameAhead old new × (weight new < weight old)
AsksBy old (Ok (Some rest)) new = SameAhead old new × HasNoStepLeft rest new
AsksBy old (Err error) new = SameAhead old new

-- whether a short request was served, and the frame with its answer returned; `None` if there is
-- none, and nothing has changed
abbrev pub GivesShortBy : {E : Type 0} → Dialogue → Recording → List ℕ → Result (Option Given) E
    → Dialogue → Recording → List ℕ → Type 0
GivesShortBy old r buffer (Ok None) new r' buffer' = (new ≡ old) × (r' ≡ r) × (buffer' ≡ buffer)
GivesShortBy old r buffer (Ok (Some given)) new r' buffer' =
    GivesNext old r buffer given new r' buffer'
GivesShortBy old r buffer (Err error) new r' buffer' = Advances old r [] new r'
    × (buffer' ≡ buffer)

-- whether the meter applied the pending event, or was out of memory and is unchanged
abbrev pub AppliesBy : {E : Type 0} → Dialogue → Recording → Result Unit E → Dialogue → Recording
    → Type 0
AppliesBy old r (Ok done) new r' = Advances old r [] new r' × (weight new < weight old)
AppliesBy old r (Err error) new r' = (new ≡ old) × (r' ≡ r)

-- whether the session received the pending reply, or was out of memory and is unchanged
abbrev pub AnswersBy : {E : Type 0} → Dialogue → Result Unit E → Dialogue → Type 0
AnswersBy old (Ok done) new = SameAhead old new × (weight new < weight old)
AnswersBy old (Err error) new = new ≡ old

-- whether one step was done: `None` if there may be a further one
abbrev pub WorksBy : {E : Type 0} → Dialogue → Recording → Result (Option NextNeed) E → Dialogue
    → Recording → Type 0
WorksBy old r (Ok None) new r' = Advances old r [] new r' × (weight new < weight old)
WorksBy old r (Ok (Some rest)) new r' = Advances old r [] new r' × HasNoStepLeft rest new
WorksBy old r (Err error) new r' = Advances old r [] new r'

-- whether steps were done until none was left, or memory ran out
abbrev pub SettlesBy : {E : Type 0} → Dialogue → Recording → Result NextNeed E → Dialogue
    → Recording
    → Type 0
SettlesBy old r (Ok rest) new r' = Advances old r [] new r' × HasNoStepLeft rest new
SettlesBy old r (Err error) new r' = Advances old r [] new r'

-- whether a frame was copied to the buffer, and no item is pending; or the frame is pending
-- because the buffer is too short
abbrev pub PlacesFrame : List ℕ → List ℕ → Given → Pending → List ℕ → Type 0
PlacesFrame frame buffer (given.Frame count) pending buffer' = (pending ≡ Nothing)
    × (count ≡ length frame) × (buffer' ≡ frame ++ drop count buffer)
PlacesFrame frame buffer (given.NoRoom count) pending buffer' = (pending ≡ Due frame)
    × (count ≡ length frame) × (length buffer < count) × (buffer' ≡ buffer)
PlacesFrame frame buffer given.Wait pending buffer' = ⊥
PlacesFrame frame buffer (given.End end) pending buffer' = ⊥

-- whether the pending frame, of `count` bytes, was copied to the buffer and is not pending any more
pub record TakesFrame (old : Dialogue) (buffer : List ℕ) (count : ℕ) (new : Dialogue)
    (buffer' : List ℕ) : Type 0 where
  pub frame : List ℕ
  pub due : old.pending ≡ Due frame
  pub now : new ≡ record old { pending = Nothing }
  pub counted : count ≡ length frame
  pub written : buffer' ≡ frame ++ drop count buffer

-- whether the pending frame was copied to the buffer, or stays pending because the buffer is too
-- short
abbrev pub GivesDue : Dialogue → List ℕ → Given → Dialogue → List ℕ → Type 0
GivesDue old buffer (given.Frame count) new buffer' = TakesFrame old buffer count new buffer'
GivesDue old buffer (given.NoRoom count) new buffer' = (new ≡ old) × KeepsFrame count buffer new
    × (buffer' ≡ buffer)
GivesDue old buffer given.Wait new buffer' = ⊥
GivesDue old buffer (given.End end) new buffer' = ⊥
