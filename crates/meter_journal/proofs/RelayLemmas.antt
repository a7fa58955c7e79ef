-- What a relay was given, change by change.
use Rattle.std.proofs.Common.{◌≡◌, ℕ, ◌+◌, ◌<◌, ◌≤◌, not, List, [], ◌++◌, Option, Some, None, refl}
use Rattle.std.proofs.Common.{sym, ap, ◌∙◌, subst, arith, append-nil}
use Rattle.std.proofs.KnownBytes.{Appends-nil, Appends-trans}
use Rattle.std.specs.Io.KnownBytes.{Appends}
use Rattle.meter_journal.specs.Relaying.{AppendsFront, Follows, OnRelay, StopsAt, output_after}
use Rattle.meter_journal.specs.Relaying.{output_line, switch_text}
use Rattle.meter_journal.specs.declared.relay.Relay.{Relay}
use Rattle.meter_journal.proofs.SwitchLemmas.{after_one, text_one}

module _ {W : Type 0} (contents : W → Option (List ℕ)) where
  -- a relay that was given no change
  pub follows_none : (relay : Relay W) → relay.given ≡ 0 → Follows contents relay 0 relay
  follows_none relay none = record {
    count = none;
    output_is = refl;
    text = Appends-nil (contents relay.output);
  }

  -- one more change was given
  pub follows_one : (old new : Relay W) → new.is_on ≡ not old.is_on → new.given ≡ old.given + 1
      → Appends (contents old.output) (contents new.output) (output_line (not old.is_on))
      → (began : Relay W) (n : ℕ) → Follows contents began n old
      → Follows contents began (n + 1) new
  follows_one old new turned one given began n so = record {
    count = one ∙ ap (λ k. k + 1) so.count;
    output_is = turned ∙ (ap not so.output_is ∙ sym (after_one began.is_on n));
    text = subst (λ (text : List ℕ). Appends (contents began.output) (contents new.output) text)
        (sym (text_one began.is_on n))
        (Appends-trans (contents began.output) (contents old.output) (contents new.output)
        (switch_text began.is_on n) (output_line (not (output_after began.is_on n))) so.text
        (subst (λ on. Appends (contents old.output) (contents new.output) (output_line (not on)))
        so.output_is given));
  }

  -- a front of the line for one more change was given
  pub stops_one : (old new : Relay W) → new.given ≡ old.given
      → AppendsFront (contents old.output) (contents new.output) (output_line (not old.is_on))
      → (began : Relay W) (n : ℕ) → Follows contents began n old → StopsAt contents began new
  stops_one old new same front began n so =
      let count : new.given ≡ n = same ∙ so.count in
      record {
        part = front.0;
        rest = front.1;
        split = ap output_line (ap (λ k. output_after began.is_on (k + 1)) count
            ∙ (after_one began.is_on n ∙ ap not (sym so.output_is))) ∙ front.2;
        text = subst
            (λ k. Appends (contents began.output) (contents new.output)
            (switch_text began.is_on k ++ front.0)) (sym count)
            (Appends-trans (contents began.output) (contents old.output) (contents new.output)
            (switch_text began.is_on n) front.0 so.text front.3);
      }

  -- a relay whose output has not failed
  pub stops_whole : (began : Relay W) (n : ℕ) (now : Relay W) → Follows contents began n now
      → StopsAt contents began now
  stops_whole began n now so = record {
    part = [];
    rest = output_line (output_after began.is_on (now.given + 1));
    split = refl;
    text = subst (λ (text : List ℕ). Appends (contents began.output) (contents now.output) text)
        (sym (append-nil (switch_text began.is_on now.given)))
        (subst (λ k. Appends (contents began.output) (contents now.output)
        (switch_text began.is_on k)) (sym so.count) so.text);
  }

  -- the changes given so far, up to a number
  pub record Following (limit : ℕ) (old now : Relay W) : Type 0 where
    pub followed : (began : Relay W) (n : ℕ) → Follows contents began n old
        → Follows contents began now.given now
    pub within : old.given ≤ limit → now.given ≤ limit

  follows_count : (began : Relay W) (n : ℕ) (now : Relay W) → Follows contents began n now
      → Follows contents began now.given now
  follows_count began n now so =
      subst (λ k. Follows contents began k now) (sym so.count) so

  pub following_none : (limit : ℕ) (relay : Relay W) → Following limit relay relay
  following_none limit relay = record {
    followed = λ began n so. follows_count began n relay so;
    within = λ few. few;
  }

  pub following_one : (limit : ℕ) (old now new : Relay W) → Following limit old now
      → now.given < limit → new.given ≡ now.given + 1
      → ((began : Relay W) (n : ℕ) → Follows contents began n now
      → Follows contents began (n + 1) new) → Following limit old new
  following_one limit old now new so below one more = record {
    followed = λ began n before. follows_count began (now.given + 1) new
        (more began now.given (so.followed began n before));
    within = λ few. omega (arith, below, one);
  }

  pub following_all : (limit : ℕ) (old now : Relay W) → Following limit old now
      → limit ≤ now.given → (began : Relay W) (n : ℕ) → n ≤ limit → Follows contents began n old
      → Follows contents began limit now
  following_all limit old now so reached began n few before =
      let start : old.given ≡ n = before.count in
      let most : now.given ≤ limit = so.within (omega (arith, start, few)) in
      let same : now.given ≡ limit = omega (arith, most, reached) in
      subst (λ k. Follows contents began k now) same (so.followed began n before)

  pub following_stops : (limit : ℕ) (old now new : Relay W) → Following limit old now
      → now.given < limit → new.given ≡ now.given
      → ((began : Relay W) (n : ℕ) → Follows contents began n now → StopsAt contents began new)
      → (began : Relay W) (n : ℕ) → Follows contents began n old
      → StopsAt contents began new × (new.given ≤ limit)
  following_stops limit old now new so below same stops began n before =
      (stops began now.given (so.followed began n before), omega (arith, below, same))

pub ruleset following = (following_none, following_one, following_all, following_stops)

-- facts of a relay, if there is one
pub on_relay_then : {R : Type 0} (P Q S : R → R → Type 0) (a b c : Option R)
    → ((x y z : R) → P x y → Q y z → S x z) → OnRelay P a b → OnRelay Q b c → OnRelay S a c
on_relay_then P Q S None None None both p q = tt
on_relay_then P Q S (Some x) (Some y) (Some z) both p q = both x y z p q
on_relay_then P Q S None None (Some z) both p q = absurd q
on_relay_then P Q S (Some x) (Some y) None both p q = absurd q
on_relay_then P Q S None (Some y) c both p q = absurd p
on_relay_then P Q S (Some x) None c both p q = absurd p

pub on_relay_as : {R : Type 0} (P Q : R → R → Type 0) (a b : Option R)
    → ((x y : R) → P x y → Q x y) → OnRelay P a b → OnRelay Q a b
on_relay_as P Q None None weaker p = tt
on_relay_as P Q (Some x) (Some y) weaker p = weaker x y p
on_relay_as P Q None (Some y) weaker p = absurd p
on_relay_as P Q (Some x) None weaker p = absurd p
