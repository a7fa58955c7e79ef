-- Marks and outcomes that a book in memory enters one after the other.
use Rattle.std.proofs.Common.{◌≡◌, ◌<◌, ◌+◌, ℕ, zero, suc, Bool, true, false, List, [], ◌∷◌, ◌++◌, inl, inr, length, slice_index_or, slice_set, take, refl, sym, ap, subst, ◌∙◌, arith}
use Rattle.std.specs.Prelude.{◌==◌, if◌then◌else◌}
use Rattle.std.proofs.lemmas.Bool.{cases_eq, eqb-true}
use Rattle.std.proofs.lemmas.List.{get_or-set_same, get_or-set_other, take_more}
use Rattle.client_core.specs.declared.job.Outcome.{Outcome}
use Rattle.campaign_ledger.specs.declared.book.PlaceOutcome.{PlaceOutcome}
use Rattle.campaign_ledger.specs.declared.entry.LedgerEntry.{LedgerEntry}
use Rattle.campaign_ledger.specs.declared.entry.LedgerEntry.TheVariants.{NotSent, MaybeSent, Came}
use Rattle.campaign_ledger.specs.Entries.{HasGone, HasCome, entry_at}
use Rattle.campaign_ledger.specs.Groups.{has, has_outcome}
use Rattle.campaign_ledger.specs.MemoryBook.{EntersMarks, EntersOutcomes}
use Rattle.campaign_ledger.proofs.RunLemmas.{gone_not_new}

-- what has gone remains so, and an outcome remains
pub record Advances (before after : LedgerEntry) : Type 0 where
  pub gone : HasGone before → HasGone after
  pub came : (outcome : Outcome) → before ≡ Came outcome → after ≡ Came outcome

not_at_all : (entry : LedgerEntry) → Advances entry entry
not_at_all entry = record { gone = λ gone. gone; came = λ outcome is. is }

twice : (a b c : LedgerEntry) → Advances a b → Advances b c → Advances a c
twice a b c first second = record {
  gone = λ gone. second.gone (first.gone gone);
  came = λ outcome is. second.came outcome (first.came outcome is);
}

-- a mark of a place that had none
marks_new : (entry : LedgerEntry) → entry ≡ NotSent → Advances entry MaybeSent
marks_new entry new = record {
  gone = λ gone. tt;
  came = λ outcome is. absurd (let never : NotSent ≡ Came outcome = sym new ∙ is in cc);
}

-- an outcome of a place that had none
comes_first : (entry : LedgerEntry) (outcome : Outcome) → ¬ HasCome entry
    → Advances entry (Came outcome)
comes_first entry outcome none = record {
  gone = λ gone. tt;
  came = λ other is. absurd (none (subst HasCome (sym is) tt));
}

module _ (entries : List LedgerEntry) (place : ℕ) (entry : LedgerEntry)
    (within : place < length entries) where
  -- the entry that was set
  set_is : (other : ℕ) → other ≡ place → entry_at (slice_set entries place entry) other ≡ entry
  set_is other same =
      subst (λ (p : ℕ). entry_at (slice_set entries place entry) p ≡ entry) (sym same)
      (get_or-set_same entries place entry MaybeSent within)

  -- the entries of all places
  set_advances : Advances (entry_at entries place) entry → (other : ℕ)
      → Advances (entry_at entries other) (entry_at (slice_set entries place entry) other)
  set_advances advances other = elim (cases_eq other place) [
    | inl same ↦
        subst (λ (e : LedgerEntry). Advances (entry_at entries other) e)
        (sym (set_is other same))
        (subst (λ (p : ℕ). Advances (entry_at entries p) entry) (sym same) advances)
    | inr apart ↦
        subst (λ (e : LedgerEntry). Advances (entry_at entries other) e)
        (sym (get_or-set_other entries place other entry MaybeSent apart))
        (not_at_all (entry_at entries other))
  ]

-- ---- marks

-- an entry of a list that is `NotSent`
unsent_within : (entries : List LedgerEntry) (place : ℕ) → entry_at entries place ≡ NotSent
    → place < length entries
unsent_within [] place is = absurd cc
unsent_within (first ∷ entries) zero is = omega arith
unsent_within (first ∷ entries) (suc place) is =
    omega (arith, unsent_within entries place is)

pub marks_advance : (marks : List ℕ) (old new : List LedgerEntry) → EntersMarks marks old new
    → (other : ℕ) → Advances (entry_at old other) (entry_at new other)
marks_advance [] old new same other =
    subst (λ (es : List LedgerEntry). Advances (entry_at old other) (entry_at es other)) (sym same)
    (not_at_all (entry_at old other))
marks_advance (first ∷ marks) old new (is, later) other =
    twice _ _ _
    (set_advances old first MaybeSent (unsent_within old first is) (marks_new _ is) other)
    (marks_advance marks (slice_set old first MaybeSent) new later other)

pub marks_fresh : (marks : List ℕ) (old new : List LedgerEntry) → EntersMarks marks old new
    → (place : ℕ) → has place marks ≡ true → ¬ HasGone (entry_at old place)
marks_fresh [] old new same place among gone = absurd cc
marks_fresh (first ∷ marks) old new (is, later) place among gone =
    of_test (place == first) refl
    (λ it. marks_fresh marks (slice_set old first MaybeSent) new later place it) among
  where
    set : Advances (entry_at old place) (entry_at (slice_set old first MaybeSent) place)
    set = set_advances old first MaybeSent (unsent_within old first is) (marks_new _ is) place

    of_test : (here : Bool) → (place == first) ≡ here
        → (has place marks ≡ true → ¬ HasGone (entry_at (slice_set old first MaybeSent) place))
        → (if here then true else has place marks) ≡ true → ⊥
    of_test true same on it = gone_not_new (entry_at old place) gone
        (subst (λ (p : ℕ). entry_at old p ≡ NotSent) (sym (eqb-true place first same)) is)
    of_test false apart on it = on it (set.gone gone)

pub marks_gone : (marks : List ℕ) (old new : List LedgerEntry) → EntersMarks marks old new
    → (place : ℕ) → has place marks ≡ true → HasGone (entry_at new place)
marks_gone [] old new same place among = absurd cc
marks_gone (first ∷ marks) old new (is, later) place among =
    of_test (place == first) refl
    (λ it. marks_gone marks (slice_set old first MaybeSent) new later place it) among
  where
    advances : Advances (entry_at (slice_set old first MaybeSent) place) (entry_at new place)
    advances = marks_advance marks (slice_set old first MaybeSent) new later place

    of_test : (here : Bool) → (place == first) ≡ here
        → (has place marks ≡ true → HasGone (entry_at new place))
        → (if here then true else has place marks) ≡ true → HasGone (entry_at new place)
    of_test true same on it = advances.gone
        (subst HasGone (sym (set_is old first MaybeSent (unsent_within old first is) place
        (eqb-true place first same)))
        tt)
    of_test false apart on it = on it

pub marks_more : (marks : List ℕ) (place : ℕ) (old new : List LedgerEntry)
    → EntersMarks marks old new → entry_at new place ≡ NotSent
    → EntersMarks (marks ++ place ∷ []) old (slice_set new place MaybeSent)
marks_more [] place old new same is = (
  subst (λ (es : List LedgerEntry). entry_at es place ≡ NotSent) same is,
  ap (λ (es : List LedgerEntry). slice_set es place MaybeSent) same,
)
marks_more (first ∷ marks) place old new (fresh, later) is =
    (fresh, marks_more marks place (slice_set old first MaybeSent) new later is)

pub marks_next : (marks : List ℕ) (i none : ℕ) (old new : List LedgerEntry) → i < length marks
    → EntersMarks (take i marks) old new → entry_at new (slice_index_or marks i none) ≡ NotSent
    → EntersMarks (take (i + 1) marks) old (slice_set new (slice_index_or marks i none) MaybeSent)
marks_next marks i none old new below enters is =
    let place = slice_index_or marks i none in
    subst (λ (ps : List ℕ). EntersMarks ps old (slice_set new place MaybeSent))
    (sym (take_more marks i none below))
    (marks_more (take i marks) place old new enters is)

-- ---- outcomes

pub outcomes_advance : (outcomes : List PlaceOutcome) (old new : List LedgerEntry)
    → EntersOutcomes outcomes old new
    → (other : ℕ) → Advances (entry_at old other) (entry_at new other)
outcomes_advance [] old new same other =
    subst (λ (es : List LedgerEntry). Advances (entry_at old other) (entry_at es other)) (sym same)
    (not_at_all (entry_at old other))
outcomes_advance (ended ∷ outcomes) old new (within, none, later) other =
    twice _ _ _
    (set_advances old ended.place (Came ended.outcome) within
    (comes_first _ ended.outcome none) other)
    (outcomes_advance outcomes (slice_set old ended.place (Came ended.outcome)) new later other)

pub outcomes_come : (outcomes : List PlaceOutcome) (old new : List LedgerEntry)
    → EntersOutcomes outcomes old new → (place : ℕ) (outcome : Outcome)
    → has_outcome place outcome outcomes → entry_at new place ≡ Came outcome
outcomes_come [] old new same place outcome among = absurd among
outcomes_come (ended ∷ outcomes) old new (within, none, later) place outcome (inl here) =
    let set = slice_set old ended.place (Came ended.outcome) in
    let advances = outcomes_advance outcomes set new later place in
    advances.came outcome
    (set_is old ended.place (Came ended.outcome) within place (sym here.0) ∙ ap Came here.1)
outcomes_come (ended ∷ outcomes) old new (within, none, later) place outcome (inr among) =
    outcomes_come outcomes (slice_set old ended.place (Came ended.outcome)) new later place outcome
    among

pub outcomes_more : (outcomes : List PlaceOutcome) (ended : PlaceOutcome)
    (old new : List LedgerEntry) → EntersOutcomes outcomes old new → ended.place < length new
    → ¬ HasCome (entry_at new ended.place)
    → EntersOutcomes (outcomes ++ ended ∷ []) old (slice_set new ended.place (Came ended.outcome))
outcomes_more [] ended old new same within none = (
  subst (λ (es : List LedgerEntry). ended.place < length es) same within,
  subst (λ (es : List LedgerEntry). ¬ HasCome (entry_at es ended.place)) same none,
  ap (λ (es : List LedgerEntry). slice_set es ended.place (Came ended.outcome)) same,
)
outcomes_more (first ∷ outcomes) ended old new (below, first_none, later) within none = (
  below,
  first_none,
  outcomes_more outcomes ended (slice_set old first.place (Came first.outcome)) new later within
      none,
)

pub outcomes_next : (outcomes : List PlaceOutcome) (i : ℕ) (none : PlaceOutcome)
    (old new : List LedgerEntry) → i < length outcomes
    → EntersOutcomes (take i outcomes) old new
    → (slice_index_or outcomes i none).place < length new
    → ¬ HasCome (entry_at new (slice_index_or outcomes i none).place)
    → EntersOutcomes (take (i + 1) outcomes) old
    (slice_set new (slice_index_or outcomes i none).place
    (Came (slice_index_or outcomes i none).outcome))
outcomes_next outcomes i none old new below enters within not_come =
    let ended = slice_index_or outcomes i none in
    subst (λ (es : List PlaceOutcome). EntersOutcomes es old
    (slice_set new ended.place (Came ended.outcome))) (sym (take_more outcomes i none below))
    (outcomes_more (take i outcomes) ended old new enters within not_come)
