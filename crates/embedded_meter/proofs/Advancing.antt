-- A session and its meter after some steps.
use Rattle.std.proofs.Common.{◌≡◌, ℕ, List, [], ◌∷◌, ◌++◌, ◌+◌, ◌<◌, arith, refl, sym, ◌∙◌, ap, subst, append_assoc, append-nil}
use Rattle.std.specs.Prelude.{map}
use Rattle.relay_events.specs.declared.event.Event.{Event}
use Rattle.relay_events.specs.declared.reply.Reply.{Reply}
use Rattle.relay_recorder.specs.Histories.{Exchange, StandsForHistory, Continues, events_of, replies_of}
use Rattle.relay_recorder.specs.Recording.{Recording}
use Rattle.session_core.specs.Remaining.{load_of}
use Rattle.session_core.specs.declared.session.Session.{Session}
use Rattle.embedded_meter.specs.Dialogues.{Dialogue, asks_ahead, sends_ahead}
use Rattle.embedded_meter.specs.Progress.{Advances}
use Rattle.embedded_meter.specs.Working.{SameAhead, HasFrameDue, weight}
use Rattle.embedded_meter.specs.declared.pending.Pending.{Pending}
use Rattle.embedded_meter.specs.declared.pending.Pending.TheVariants.{Nothing, Asked, Answered, Due}

map_both : {A B : Type 0} (f : A → B) (xs ys : List A) → map f (xs ++ ys) ≡ map f xs ++ map f ys
map_both f [] ys = refl
map_both f (x ∷ xs) ys = ap (λ (zs : List _). f x ∷ zs) (map_both f xs ys)

-- the session will still do the same, and the meter applied nothing
pub advances_same : (old new : Dialogue) (r : Recording) → SameAhead old new
    → Advances old r [] new r
advances_same old new r same = record {
  told = [];
  histories = λ history origin stands. subst (λ (h : List Exchange). StandsForHistory r h origin)
      (sym (append-nil history)) stands;
  capacity = refl;
  asks = same.asks;
  sends = same.sends;
  ends = same.ends;
  ended = same.ended;
}

pub advances_none : (d : Dialogue) (r : Recording) → Advances d r [] d r
advances_none d r = advances_same d d r (record {
  asks = λ more. refl;
  sends = λ more replies. refl;
  ends = λ more. refl;
  ended = refl;
})

-- some steps, followed by others
pub advances_on : (old d new : Dialogue) (r r' r'' : Recording) (given : List (List ℕ))
    → Advances old r [] d r' → Advances d r' given new r'' → Advances old r given new r''
advances_on old d new r r' r'' given first then_ = record {
  told = first.told ++ then_.told;
  histories = λ history origin stands.
      subst (λ (h : List Exchange). StandsForHistory r'' h origin)
      (append_assoc history first.told then_.told)
      (then_.histories (history ++ first.told) origin (first.histories history origin stands));
  capacity = then_.capacity ∙ first.capacity;
  asks = λ more.
      first.asks more
      ∙ ap (λ (es : List Event). events_of first.told ++ es) (then_.asks more)
      ∙ sym (append_assoc (events_of first.told) (events_of then_.told) (asks_ahead new more))
      ∙ ap (λ (es : List Event). es ++ asks_ahead new more)
      (sym (map_both (λ (told : Exchange). told.0) first.told then_.told));
  sends = λ more later.
      ap (λ (rs : List Reply). sends_ahead old more (rs ++ later))
      (map_both (λ (told : Exchange). told.1) first.told then_.told)
      ∙ ap (λ (rs : List Reply). sends_ahead old more rs)
      (append_assoc (replies_of first.told) (replies_of then_.told) later)
      ∙ first.sends more (replies_of then_.told ++ later)
      ∙ then_.sends more later;
  ends = λ more. first.ends more ∙ then_.ends more;
  ended = then_.ended ∙ first.ended;
}

-- the meter applied the event that was requested
pub advances_asked : (s : Session) (event : Event) (reply : Reply) (r r' : Recording)
    → Continues r r' event reply → r'.capacity ≡ r.capacity
    → Advances (record { session = s; pending = Asked event }) r []
    (record { session = s; pending = Answered reply }) r'
advances_asked s event reply r r' continues capacity = record {
  told = (event, reply) ∷ [];
  histories = continues.histories;
  capacity = capacity;
  asks = λ more. refl;
  sends = λ more later. refl;
  ends = λ more. refl;
  ended = refl;
}

-- the pending frame was returned
pub advances_framed : (s : Session) (frame : List ℕ) (r : Recording)
    → Advances (record { session = s; pending = Due frame }) r (frame ∷ [])
    (record { session = s; pending = Nothing }) r
advances_framed s frame r = record {
  told = [];
  histories = λ history origin stands. subst (λ (h : List Exchange). StandsForHistory r h origin)
      (sym (append-nil history)) stands;
  capacity = refl;
  asks = λ more. refl;
  sends = λ more later. refl;
  ends = λ more. refl;
  ended = refl;
}

-- out of memory nothing has changed
pub advances_kept : (old new : Dialogue) (r r' : Recording) → new ≡ old → r' ≡ r
    → Advances old r [] new r'
advances_kept old new r r' e e' =
    subst (λ (n : Dialogue). Advances old r [] n r') (sym e)
    (subst (λ (q : Recording). Advances old r [] old q) (sym e') (advances_none old r))

-- the meter applied the pending event, and its reply is pending now
pub applied : (old : Dialogue) (s : Session) (u u' : Pending) (event : Event) (reply : Reply)
    (r r' : Recording)
    → record { session = s; pending = u } ≡ old → u ≡ Asked event → u' ≡ Answered reply
    → Continues r r' event reply → r'.capacity ≡ r.capacity
    → Advances old r [] (record { session = s; pending = u' }) r'
    × (weight (record { session = s; pending = u' }) < weight old)
applied old s u u' event reply r r' is asked answered continues capacity =
    subst (λ (d : Dialogue). Advances d r [] (record { session = s; pending = u' }) r'
    × (weight (record { session = s; pending = u' }) < weight d)) is
    (subst (λ (v : Pending). Advances (record { session = s; pending = v }) r []
    (record { session = s; pending = u' }) r'
    × (weight (record { session = s; pending = u' }) < weight
    (record { session = s; pending = v }))) (sym asked)
    (subst (λ (v : Pending). Advances (record { session = s; pending = Asked event }) r []
    (record { session = s; pending = v }) r'
    × (weight (record { session = s; pending = v }) < load_of s + load_of s + 1)) (sym answered)
    (advances_asked s event reply r r' continues capacity, omega arith)))

-- a frame is pending
pub due_by : (old : Dialogue) (s : Session) (u : Pending) (frame : List ℕ)
    → record { session = s; pending = u } ≡ old → u ≡ Due frame → HasFrameDue old
due_by old s u frame is due = record {
  frame = frame;
  is = ap (λ (d : Dialogue). d.pending)
      (sym is) ∙ due;
}
