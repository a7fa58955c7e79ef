-- Sessions over several calls.
use Rattle.std.proofs.Common.{◌≡◌, ◌≢◌, ℕ, List, [], ◌∷◌, ◌++◌, Option, Some, None, refl, sym, ◌∙◌, ap, subst, append_assoc, append-nil}
use Rattle.std.specs.Prelude.{map}
use Rattle.std.proofs.lemmas.Option.{same_Some, none-some}
use Rattle.relay_core.specs.World.{World}
use Rattle.relay_events.specs.declared.event.Event.{Event}
use Rattle.relay_events.specs.declared.reply.Reply.{Reply}
use Rattle.relay_recorder.specs.Histories.{Exchange, StandsForHistory, events_of, replies_of}
use Rattle.relay_recorder.specs.Recording.{Recording}
use Rattle.embedded_meter.specs.Calls.{FeedsAt}
use Rattle.embedded_meter.specs.Dialogues.{Dialogue, asks_ahead, sends_ahead, ends_ahead}
use Rattle.embedded_meter.specs.MeterStates.{MeterState, OthersStay, AtSession, dialogue_at}
use Rattle.embedded_meter.specs.Progress.{Feeds, Advances}
use Rattle.fleet_links.specs.Serving.{Progresses, Serves}

map_both : {A B : Type 0} (f : A → B) (xs ys : List A) → map f (xs ++ ys) ≡ map f xs ++ map f ys
map_both f [] ys = refl
map_both f (x ∷ xs) ys = ap (λ (zs : List _). f x ∷ zs) (map_both f xs ys)

-- ---- one session

pub progresses_advanced : (d d' : Dialogue) (r r' : Recording) (given : List (List ℕ))
    → Advances d r given d' r' → Progresses d r [] given d' r'
progresses_advanced d d' r r' given advances = record {
  told = advances.told;
  histories = advances.histories;
  capacity = advances.capacity;
  asks = advances.asks;
  sends = advances.sends;
  ends = advances.ends;
}

pub progresses_fed : (d d' : Dialogue) (r : Recording) (bytes : List ℕ) → Feeds d bytes d'
    → Progresses d r bytes [] d' r
progresses_fed d d' r bytes feeds = record {
  told = [];
  histories = λ history origin stands. subst (λ (h : List Exchange). StandsForHistory r h origin)
      (sym (append-nil history)) stands;
  capacity = refl;
  asks = λ more. sym (feeds.asks more);
  sends = λ more later. sym (feeds.sends more later);
  ends = λ more. sym (feeds.ends more);
}

pub progresses_none : (d : Dialogue) (r : Recording) → Progresses d r [] [] d r
progresses_none d r = record {
  told = [];
  histories = λ history origin stands. subst (λ (h : List Exchange). StandsForHistory r h origin)
      (sym (append-nil history)) stands;
  capacity = refl;
  asks = λ more. refl;
  sends = λ more later. refl;
  ends = λ more. refl;
}

-- some calls, followed by others
pub progresses_on : (d d' d'' : Dialogue) (r r' r'' : Recording) (input input' : List ℕ)
    (given given' : List (List ℕ))
    → Progresses d r input given d' r' → Progresses d' r' input' given' d'' r''
    → Progresses d r (input ++ input') (given ++ given') d'' r''
progresses_on d d' d'' r r' r'' input input' given given' first then_ = record {
  told = first.told ++ then_.told;
  histories = λ history origin stands.
      subst (λ (h : List Exchange). StandsForHistory r'' h origin)
      (append_assoc history first.told then_.told)
      (then_.histories (history ++ first.told) origin (first.histories history origin stands));
  capacity = then_.capacity ∙ first.capacity;
  asks = λ more.
      ap (λ (bytes : List ℕ). asks_ahead d bytes) (append_assoc input input' more)
      ∙ first.asks (input' ++ more)
      ∙ ap (λ (es : List Event). events_of first.told ++ es) (then_.asks more)
      ∙ sym (append_assoc (events_of first.told) (events_of then_.told) (asks_ahead d'' more))
      ∙ ap (λ (es : List Event). es ++ asks_ahead d'' more)
      (sym (map_both (λ (told : Exchange). told.0) first.told then_.told));
  sends = λ more later.
      ap (λ (bytes : List ℕ).
      sends_ahead d bytes (replies_of (first.told ++ then_.told) ++ later))
      (append_assoc input input' more)
      ∙ ap (λ (rs : List Reply). sends_ahead d (input ++ (input' ++ more)) (rs ++ later))
      (map_both (λ (told : Exchange). told.1) first.told then_.told)
      ∙ ap (λ (rs : List Reply). sends_ahead d (input ++ (input' ++ more)) rs)
      (append_assoc (replies_of first.told) (replies_of then_.told) later)
      ∙ first.sends (input' ++ more) (replies_of then_.told ++ later)
      ∙ ap (λ (fs : List (List ℕ)). given ++ fs) (then_.sends more later)
      ∙ sym (append_assoc given given' (sends_ahead d'' more later));
  ends = λ more.
      ap (λ (bytes : List ℕ). ends_ahead d bytes) (append_assoc input input' more)
      ∙ first.ends (input' ++ more) ∙ then_.ends more;
}

-- ---- one session of a meter

-- a session that is open
record Open (m : MeterState) (number : ℕ) : Type 0 where
  pub dialogue : Dialogue
  pub is : dialogue_at m number ≡ Some dialogue

open_in : (m : MeterState) (number : ℕ) (o : Option Dialogue) → dialogue_at m number ≡ o
    → o ≢ None → Open m number
open_in m number None e never = absurd (never refl)
open_in m number (Some d) e _ = record { dialogue = d; is = e }

others_stay : (m : MeterState) (number : ℕ) → OthersStay m number m
others_stay m number = record {
  others = λ other apart. refl;
  password = refl;
}

others_on : (m m' m'' : MeterState) (number : ℕ) → OthersStay m number m'
    → OthersStay m' number m'' → OthersStay m number m''
others_on m m' m'' number first then_ = record {
  others = λ other apart. then_.others other apart ∙ first.others other apart;
  password = then_.password ∙ first.password;
}

pub serves_none : (number : ℕ) (m : MeterState) → dialogue_at m number ≢ None
    → Serves number m [] [] m
serves_none number m is_open =
    let o = open_in m number (dialogue_at m number) refl is_open in
    record {
      before = o.dialogue;
      after = o.dialogue;
      was = o.is;
      is = o.is;
      went = progresses_none o.dialogue m.recorder;
      stay = others_stay m number;
    }

pub serves_advanced : (number : ℕ) (m m' : MeterState) (given : List (List ℕ))
    → AtSession m number m' (λ (d d' : Dialogue). Advances d m.recorder given d' m'.recorder)
    → Serves number m [] given m'
serves_advanced number m m' given at = record {
  before = at.before;
  after = at.after;
  was = at.was;
  is = at.is;
  went = progresses_advanced at.before at.after m.recorder m'.recorder given at.does;
  stay = at.stay;
}

pub serves_fed : (number : ℕ) (m m' : MeterState) (bytes : List ℕ) → FeedsAt m number bytes m'
    → Serves number m bytes [] m'
serves_fed number m m' bytes feeds = record {
  before = feeds.session.before;
  after = feeds.session.after;
  was = feeds.session.was;
  is = feeds.session.is;
  went = subst (λ (r : Recording).
      Progresses feeds.session.before m.recorder bytes [] feeds.session.after r)
      (sym feeds.recorder)
      (progresses_fed feeds.session.before feeds.session.after m.recorder bytes
      feeds.session.does);
  stay = feeds.session.stay;
}

-- some calls, followed by others
pub serves_on : (number : ℕ) (m m' m'' : MeterState) (input input' : List ℕ)
    (given given' : List (List ℕ)) → Serves number m input given m'
    → Serves number m' input' given' m''
    → Serves number m (input ++ input') (given ++ given') m''
serves_on number m m' m'' input input' given given' first then_ =
    let same : then_.before ≡ first.after = same_Some _ _ (sym then_.was ∙ first.is) in
    record {
      before = first.before;
      after = then_.after;
      was = first.was;
      is = then_.is;
      went = progresses_on first.before first.after then_.after m.recorder m'.recorder m''.recorder
          input input' given given' first.went
          (subst (λ (d : Dialogue).
          Progresses d m'.recorder input' given' then_.after m''.recorder) same then_.went);
      stay = others_on m m' m'' number first.stay then_.stay;
    }

-- the session stays open
pub serves_open : (number : ℕ) (m m' : MeterState) (input : List ℕ) (given : List (List ℕ))
    → Serves number m input given m' → dialogue_at m' number ≢ None
serves_open number m m' input given serves e = none-some serves.after (sym e ∙ serves.is)
