-- The short way of `next`: a session that only waits, and a short request up to its frame.
use Rattle.std.proofs.Common.{◌≡◌, ℕ, List, [], ◌∷◌, refl, sym, ◌∙◌, ap, subst, Result, Ok, Err, IsErrAnd}
use Rattle.relay_events.specs.declared.event.Event.{Event}
use Rattle.relay_events.specs.declared.reply.Reply.{Reply}
use Rattle.relay_recorder.specs.Histories.{Continues}
use Rattle.relay_recorder.specs.Recording.{Recording}
use Rattle.session_core.specs.Progress.{AsksShort, IsQuiet}
use Rattle.session_core.specs.Progress as session
use Rattle.session_core.specs.Remaining.{still_asks}
use Rattle.session_core.specs.declared.session.Session.{Session}
use Rattle.embedded_meter.specs.Dialogues.{Dialogue, asks_ahead}
use Rattle.embedded_meter.specs.Progress.{Advances, IsIdle, GivesNext, GivesNextBy}
use Rattle.embedded_meter.specs.Working.{SameAhead, PlacesFrame}
use Rattle.embedded_meter.specs.declared.given.Given.{Given}
use Rattle.embedded_meter.specs.declared.given.Given.TheVariants as given
use Rattle.embedded_meter.specs.declared.pending.Pending.{Pending}
use Rattle.embedded_meter.specs.declared.pending.Pending.TheVariants.{Nothing, Asked, Answered, Due}
use Rattle.embedded_meter.proofs.Advancing.{advances_same, advances_on, advances_asked, advances_framed}

-- a dialogue in which nothing is pending
nothing_pending : (s : Session) (u : Pending) (old : Dialogue)
    → record { session = s; pending = u } ≡ old → old.pending ≡ Nothing
    → record { session = s; pending = Nothing } ≡ old
nothing_pending s u old is nothing =
    ap (λ (v : Pending). record { session = s; pending = v })
    (sym (ap (λ (d : Dialogue). d.pending) is ∙ nothing)) ∙ is

-- the event of the request is pending
asked_ahead : (s asked : Session) (event : Event) → AsksShort s event asked
    → SameAhead (record { session = s; pending = Nothing })
    (record { session = asked; pending = Asked event })
asked_ahead s asked event asks = record {
  asks = asks.steps.asks;
  sends = asks.steps.sends;
  ends = asks.steps.ends;
  ended = asks.steps.finished;
}

-- the frame of the answer is pending
framed_ahead : (asked answered : Session) (reply : Reply) (frame : List ℕ)
    → session.AnswersBy asked reply frame answered
    → SameAhead (record { session = asked; pending = Answered reply })
    (record { session = answered; pending = Due frame })
framed_ahead asked answered reply frame answers = record {
  asks = λ more. sym (answers.takes.asks more) ∙ answers.sends.asks more;
  sends = λ more replies. sym (answers.takes.sends more replies) ∙ answers.sends.sends more replies;
  ends = λ more. sym (answers.takes.ends more) ∙ answers.sends.ends more;
  ended = answers.sends.finished ∙ answers.takes.finished;
}

-- the meter did not apply the event
pub asked_short : (old : Dialogue) (s asked : Session) (u : Pending) (event : Event)
    (r r' : Recording) → record { session = s; pending = u } ≡ old → old.pending ≡ Nothing
    → AsksShort s event asked → r' ≡ r
    → Advances old r [] (record { session = asked; pending = Asked event }) r'
asked_short old s asked u event r r' is nothing asks same =
    subst (λ (d : Dialogue). Advances d r [] (record { session = asked; pending = Asked event })
    r') (nothing_pending s u old is nothing)
    (subst (λ (q : Recording). Advances (record { session = s; pending = Nothing }) r []
    (record { session = asked; pending = Asked event }) q) (sym same)
    (advances_same _ _ r (asked_ahead s asked event asks)))

-- the meter applied the event
pub replied_short : (old : Dialogue) (s asked : Session) (u : Pending) (event : Event)
    (reply : Reply) (r r' : Recording) → record { session = s; pending = u } ≡ old
    → old.pending ≡ Nothing → AsksShort s event asked → Continues r r' event reply
    → r'.capacity ≡ r.capacity
    → Advances old r [] (record { session = asked; pending = Answered reply }) r'
replied_short old s asked u event reply r r' is nothing asks continues capacity =
    advances_on _ _ _ r r r' [] (asked_short old s asked u event r r is nothing asks refl)
    (advances_asked asked event reply r r' continues capacity)

-- the frame of the answer was made
pub framed_short : (old : Dialogue) (s asked answered : Session) (u : Pending) (event : Event)
    (reply : Reply) (frame : List ℕ) (r r' : Recording)
    → record { session = s; pending = u } ≡ old → old.pending ≡ Nothing
    → AsksShort s event asked → Continues r r' event reply → r'.capacity ≡ r.capacity
    → session.AnswersBy asked reply frame answered
    → Advances old r [] (record { session = answered; pending = Due frame }) r'
framed_short old s asked answered u event reply frame r r' is nothing asks continues capacity
    answers =
    advances_on _ _ _ r r' r' []
    (replied_short old s asked u event reply r r' is nothing asks continues capacity)
    (advances_same _ _ r' (framed_ahead asked answered reply frame answers))

-- the frame was returned, or is pending
pub placed_short : (old : Dialogue) (s : Session) (u : Pending) (frame : List ℕ) (r r' : Recording)
    (buffer buffer' : List ℕ) (g : Given)
    → Advances old r [] (record { session = s; pending = Due frame }) r'
    → PlacesFrame frame buffer g u buffer'
    → GivesNext old r buffer g (record { session = s; pending = u }) r' buffer'
placed_short old s u frame r r' buffer buffer' (given.Frame count) far places = record {
  frame = frame;
  advances = subst (λ (v : Pending). Advances old r (frame ∷ [])
      (record { session = s; pending = v }) r') (sym places.0)
      (advances_on _ _ _ r r' r' (frame ∷ []) far (advances_framed s frame r'));
  counted = places.1;
  written = places.2;
}
placed_short old s u frame r r' buffer buffer' (given.NoRoom count) far places = (
  subst (λ (v : Pending). Advances old r [] (record { session = s; pending = v }) r')
      (sym places.0) far,
  record { frame = frame; due = places.0; counted = places.1; longer = places.2 },
  places.3,
)
placed_short old s u frame r r' buffer buffer' given.Wait far places = absurd places
placed_short old s u frame r r' buffer buffer' (given.End end) far places = absurd places

-- nothing is to be asked or sent
pub idle_by : (old : Dialogue) (s : Session) (u : Pending)
    → record { session = s; pending = u } ≡ old → u ≡ Nothing → IsQuiet s → IsIdle old
idle_by old s u is nothing quiet =
    subst IsIdle is (subst (λ (v : Pending). IsIdle (record { session = s; pending = v }))
    (sym nothing) (record {
      asks = quiet.asks;
      sends = quiet.sends;
      ends = quiet.ends;
      goes_on = quiet.goes_on;
    }))

-- `next` ran out of memory
pub stopped_short : {E : Type 0} (old new : Dialogue) (r r' : Recording) (buffer buffer' : List ℕ)
    (result : Result Given E) (P : E → Type 0) → IsErrAnd result P
    → Advances old r [] new r' × (buffer' ≡ buffer) → GivesNextBy old r buffer result new r' buffer'
stopped_short old new r r' buffer buffer' (Ok _) P is far = absurd is
stopped_short old new r r' buffer buffer' (Err error) P is far = far

-- the event that a session asks first is that of its short request
pub same_event : (old : Dialogue) (s asked : Session) (u : Pending) (event first : Event)
    (others : List Event) → record { session = s; pending = u } ≡ old → old.pending ≡ Nothing
    → asks_ahead old [] ≡ first ∷ others → AsksShort s event asked → event ≡ first
same_event old s asked u event first others is nothing ahead asks =
    let front : still_asks s [] ≡ first ∷ others =
    ap (λ (d : Dialogue). asks_ahead d []) (nothing_pending s u old is nothing) ∙ ahead in
    let both : event ∷ still_asks asked [] ≡ first ∷ others = sym (asks.steps.asks []) ∙ front in
    cc
