-- Marks one after the other.
use Rattle.std.proofs.Common.{◌≡◌, ◌++◌, ◌∷◌, ◌<◌, ℕ, zero, suc, Bool, true, false, List, [], Option, Some, None, refl, sym, ◌∙◌, ap, subst, length, inl, inr, arith, take}
use Rattle.std.specs.Prelude.{if◌then◌else◌, ◌==◌, slice_get, slice_set, slice_index_or}
use Rattle.std.proofs.lemmas.Bool.{eq-eqb, ne_eqb, eqb-true, cases_eq}
use Rattle.std.proofs.lemmas.Option.{same_Some}
use Rattle.std.proofs.lemmas.List.{length-set}
use Rattle.campaign_ledger.specs.Groups.{has}
use Rattle.campaign_board.specs.declared.talk.Talk.{Talk}
use Rattle.campaign_board.specs.Talks.{PlaceState, cleared_place, clear_option}
use Rattle.campaign_board.specs.Updates.{ClearsMarked, place_after, IsDueAt, AreDueAt}
use Rattle.campaign_board.proofs.Lists.{get_set_same, get_set_other}

either : (b p q r : Bool) → p ≡ (if q then true else r)
    → (if b then true else p) ≡ (if (if b then true else q) then true else r)
either true p q r is = refl
either false p q r is = is

-- a place is in one of two lists
has_both : (at : ℕ) (xs ys : List ℕ)
    → has at (xs ++ ys) ≡ (if has at xs then true else has at ys)
has_both at [] ys = refl
has_both at (x ∷ xs) ys = either (at == x) (has at (xs ++ ys)) (has at xs) (has at ys)
    (has_both at xs ys)

clear_twice : (talk : Option Talk) → clear_option (clear_option talk) ≡ clear_option talk
clear_twice None = refl
clear_twice (Some talk) = refl

cleared_twice : (place : PlaceState) → cleared_place (cleared_place place) ≡ cleared_place place
cleared_twice place = ap (λ (t : Option Talk). record { talk = t; ending = place.ending })
    (clear_twice place.talk)

cleared_both : (first second : Bool) (place : PlaceState)
    → (if second then cleared_place (if first then cleared_place place else place)
    else (if first then cleared_place place else place))
    ≡ (if (if first then true else second) then cleared_place place else place)
cleared_both true true place = cleared_twice place
cleared_both true false place = refl
cleared_both false true place = refl
cleared_both false false place = refl

-- no mark clears nothing
pub clears_none : (places : List PlaceState) → ClearsMarked [] places places
clears_none places = record { count = refl; each = λ at place is. (place, is, refl) }

cleared_more : (done more : List ℕ) (at : ℕ) (place mid place' : PlaceState)
    → mid ≡ place_after done at place → place' ≡ place_after more at mid
    → place' ≡ place_after (done ++ more) at place
cleared_more done more at place mid place' first second =
    second ∙ ap (λ (p : PlaceState). place_after more at p) first
    ∙ cleared_both (has at done) (has at more) place
    ∙ ap (λ (b : Bool). if b then cleared_place place else place) (sym (has_both at done more))

-- two groups of marks are one
pub clears_more : (done more : List ℕ) (old mid new : List PlaceState) → ClearsMarked done old mid
    → ClearsMarked more mid new → ClearsMarked (done ++ more) old new
clears_more done more old mid new first second = record {
  count = second.count ∙ first.count;
  each = λ at place' is.
      let here = second.each at place' is in
      let there = first.each at here.0 here.1 in
      (there.0, there.1, cleared_more done more at there.0 here.0 place' there.2 here.2);
}

-- the mark of one place
pub clears_one : (old new : List PlaceState) (at : ℕ) (place place' : PlaceState)
    → slice_get old at ≡ Some place → place' ≡ cleared_place place
    → new ≡ slice_set old at place' → ClearsMarked (at ∷ []) old new
clears_one old new at place place' was now is = record {
  count = ap length is ∙ length-set old at place';
  each = λ other found got. elim (cases_eq other at) [
    | inl same ↦ (
      place,
      subst (λ (n : ℕ). slice_get old n ≡ Some place) (sym same) was,
      rw (eq-eqb other at same) (sym (same_Some place' found
          (sym (get_set_same old at place place' was)
          ∙ subst (λ (n : ℕ). slice_get (slice_set old at place') n ≡ Some found) same
          (subst (λ (xs : List PlaceState). slice_get xs other ≡ Some found) is got))) ∙ now),
    )
    | inr apart ↦ (
      found,
      sym (get_set_other old at other place' (λ same. apart (sym same)))
          ∙ subst (λ (xs : List PlaceState). slice_get xs other ≡ Some found) is got,
      rw (ne_eqb other at apart) refl,
    )
  ];
}

-- the mark of a place that is not there
pub clears_absent : (old : List PlaceState) (at : ℕ) → slice_get old at ≡ None
    → ClearsMarked (at ∷ []) old old
clears_absent old at none = record {
  count = refl;
  each = λ other found got. elim (cases_eq other at) [
    | inl same ↦ absurd (let both : None ≡ Some found = sym none
        ∙ subst (λ (n : ℕ). slice_get old n ≡ Some found) same got in cc)
    | inr apart ↦ (found, got, rw (ne_eqb other at apart) refl)
  ];
}

-- ---- marks that are due

due_first : (places : List PlaceState) (x : ℕ) (at : ℕ) (here later : Bool) → (at == x) ≡ here
    → IsDueAt places x → (later ≡ true → IsDueAt places at)
    → (if here then true else later) ≡ true → IsDueAt places at
due_first places x at true later same due rest is =
    subst (λ (n : ℕ). IsDueAt places n) (sym (eqb-true at x same)) due
due_first places x at false later same due rest is = rest is

-- marks each of which is due
pub all_due : (places : List PlaceState) (marks : List ℕ) (n : ℕ)
    → ((i : ℕ) → i < n → i < length marks → IsDueAt places (slice_index_or marks i 0))
    → AreDueAt places (take n marks)
all_due places marks zero due = λ at is. absurd cc
all_due places [] (suc n) due = λ at is. absurd cc
all_due places (x ∷ marks) (suc n) due = λ at is.
    due_first places x at (at == x) (has at (take n marks)) refl (due 0 (omega arith) (omega arith))
    (all_due places marks n (λ i within below. due (suc i) (omega arith) (omega arith)) at) is
