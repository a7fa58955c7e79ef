-- The steps of a board.
use Rattle.std.proofs.Common.{◌≡◌, ◌∷◌, ℕ, suc, Bool, true, false, List, Some, refl, sym, ◌∙◌, ap, subst, inl, inr}
use Rattle.std.specs.Prelude.{if◌then◌else◌, ◌==◌, slice_get, slice_set}
use Rattle.std.proofs.lemmas.Bool.{eq-eqb, ne_eqb, cases_eq}
use Rattle.std.proofs.lemmas.Option.{same_Some}
use Rattle.client_core.specs.declared.job.Outcome.{Outcome}
use Rattle.client_core.specs.Outcomes.{outcome_of}
use Rattle.campaign_ledger.specs.declared.book.PlaceOutcome.{PlaceOutcome}
use Rattle.campaign_ledger.specs.Groups.{has, has_outcome}
use Rattle.campaign_board.specs.Lives.{Happening, began, received, lost, handed, ended, committed, Life, life_of, life_after}
use Rattle.campaign_board.specs.Talks.{PlaceState, IsPlace}
use Rattle.campaign_board.specs.Histories.{Terms, IsOutcomeAt}
use Rattle.campaign_board.specs.Boards.{ArePlaces}
use Rattle.campaign_board.proofs.Lists.{get_set_same, get_set_other}

-- ---- a step and the life of a place

-- the step is that of another place, and no commit
abbrev pub IsElsewhere : ℕ → Happening → Type 0
IsElsewhere place (began at) = at ≡ place → ⊥
IsElsewhere place (received at bytes) = at ≡ place → ⊥
IsElsewhere place (lost at bytes) = at ≡ place → ⊥
IsElsewhere place (handed at text) = at ≡ place → ⊥
IsElsewhere place (ended at outcome) = at ≡ place → ⊥
IsElsewhere place (committed marks outcomes) = ⊥

pub life_elsewhere : (place : ℕ) (step : Happening) (life : Life) → IsElsewhere place step
    → life_after place step life ≡ life
life_elsewhere place (began at) life apart = rw (ne_eqb at place apart) refl
life_elsewhere place (received at bytes) life apart = rw (ne_eqb at place apart) refl
life_elsewhere place (lost at bytes) life apart = refl
life_elsewhere place (handed at text) life apart = rw (ne_eqb at place apart) refl
life_elsewhere place (ended at outcome) life apart = rw (ne_eqb at place apart) refl
life_elsewhere place (committed marks outcomes) life apart = absurd apart

-- the step is of this place
abbrev pub IsStepOf : ℕ → Happening → Type 0
IsStepOf place (began at) = at ≡ place
IsStepOf place (received at bytes) = at ≡ place
IsStepOf place (lost at bytes) = at ≡ place
IsStepOf place (handed at text) = at ≡ place
IsStepOf place (ended at outcome) = at ≡ place
IsStepOf place (committed marks outcomes) = ⊥

pub elsewhere : (at place : ℕ) (step : Happening) → IsStepOf at step → (at ≡ place → ⊥)
    → IsElsewhere place step
elsewhere at place (began x) here apart = λ same. apart (sym here ∙ same)
elsewhere at place (received x bytes) here apart = λ same. apart (sym here ∙ same)
elsewhere at place (lost x bytes) here apart = λ same. apart (sym here ∙ same)
elsewhere at place (handed x text) here apart = λ same. apart (sym here ∙ same)
elsewhere at place (ended x outcome) here apart = λ same. apart (sym here ∙ same)
elsewhere at place (committed marks outcomes) here apart = absurd here

-- a step of one place leaves a mark as it is
pub mark_stays : (at place : ℕ) (step : Happening) (life : Life) → IsStepOf at step
    → (life_after place step life).is_marked ≡ life.is_marked
mark_stays at place step life here =
    elim (cases_eq at place) [
      | inl same ↦ here_stays step here same
      | inr apart ↦
          ap (λ (l : Life). l.is_marked) (life_elsewhere place step life
          (elsewhere at place step here apart))
    ]
  where
    here_stays : (s : Happening) → IsStepOf at s → at ≡ place
        → (life_after place s life).is_marked ≡ life.is_marked
    here_stays (began x) is same = rw (eq-eqb x place (is ∙ same)) refl
    here_stays (received x bytes) is same = rw (eq-eqb x place (is ∙ same)) refl
    here_stays (lost x bytes) is same = refl
    here_stays (handed x text) is same = rw (eq-eqb x place (is ∙ same)) refl
    here_stays (ended x outcome) is same = rw (eq-eqb x place (is ∙ same)) refl
    here_stays (committed marks outcomes) is same = absurd is

-- ---- the places after a step of one of them

pub places_after : (terms : Terms) (steps : List Happening) (step : Happening) (at : ℕ)
    (places : List PlaceState) (place place' : PlaceState) → ArePlaces terms steps places
    → IsStepOf at step → slice_get places at ≡ Some place
    → IsPlace (terms.job at).verb (terms.password at) (life_after at step (life_of at steps)) place'
    → ArePlaces terms (step ∷ steps) (slice_set places at place')
places_after terms steps step at places place place' are here was is = λ other found got.
    elim (cases_eq at other) [
      | inl same ↦ (let now : place' ≡ found =
          same_Some place' found (sym (get_set_same places at place place' was)
          ∙ ap (λ (n : ℕ). slice_get (slice_set places at place') n) same ∙ got) in
          subst (λ (n : ℕ). IsPlace (terms.job n).verb (terms.password n)
          (life_after n step (life_of n steps)) found) same
          (subst (λ (p : PlaceState). IsPlace (terms.job at).verb (terms.password at)
          (life_after at step (life_of at steps)) p) now is))
      | inr apart ↦
          subst (λ (life : Life). IsPlace (terms.job other).verb (terms.password other) life found)
          (sym (life_elsewhere other step (life_of other steps)
          (elsewhere at other step here apart)))
          (are other found (sym (get_set_other places at other place' apart) ∙ got))
    ]

pub places_same : (terms : Terms) (steps : List Happening) (at : ℕ)
    (places : List PlaceState) (place place' : PlaceState) → ArePlaces terms steps places
    → slice_get places at ≡ Some place
    → IsPlace (terms.job at).verb (terms.password at) (life_of at steps) place'
    → ArePlaces terms steps (slice_set places at place')
places_same terms steps at places place place' are was is = λ other found got.
    elim (cases_eq at other) [
      | inl same ↦ (let now : place' ≡ found =
          same_Some place' found (sym (get_set_same places at place place' was)
          ∙ ap (λ (n : ℕ). slice_get (slice_set places at place') n) same ∙ got) in
          subst (λ (n : ℕ). IsPlace (terms.job n).verb (terms.password n) (life_of n steps) found)
          same
          (subst (λ (p : PlaceState). IsPlace (terms.job at).verb (terms.password at)
          (life_of at steps) p) now is))
      | inr apart ↦
          are other found (sym (get_set_other places at other place' apart) ∙ got)
    ]

-- ---- the outcomes that wait

-- a step keeps the outcomes of the places that are over
abbrev pub KeepsOver : Happening → List Happening → Type 0
KeepsOver step steps = (place : ℕ) → (life_of place steps).is_over ≡ true
    → ((life_after place step (life_of place steps)).is_over ≡ true)
    × ((life_after place step (life_of place steps)).fed ≡ (life_of place steps).fed)

-- whether these outcomes are those of places that are over
abbrev pub AreOutcomes : Terms → List Happening → List PlaceOutcome → Type 0
AreOutcomes terms steps outcomes = (at : ℕ) (outcome : Outcome) → has_outcome at outcome outcomes
    → ((life_of at steps).is_over ≡ true) × IsOutcomeAt terms steps at outcome

pub outcomes_after : (terms : Terms) (steps : List Happening) (step : Happening)
    (outcomes : List PlaceOutcome) → KeepsOver step steps → AreOutcomes terms steps outcomes
    → AreOutcomes terms (step ∷ steps) outcomes
outcomes_after terms steps step outcomes keeps are = λ at outcome is.
    let old = are at outcome is in
    let kept = keeps at old.0 in
    (kept.0, old.1 ∙ ap (λ (bytes : List ℕ). outcome_of (terms.job at).verb bytes) (sym kept.1))

over_if : (here : Bool) (life life' : Life) → (life.is_over ≡ true → life'.is_over ≡ true)
    → life'.fed ≡ life.fed → life.is_over ≡ true
    → ((if here then life' else life).is_over ≡ true)
    × ((if here then life' else life).fed ≡ life.fed)
over_if true life life' still fed over = (still over, fed)
over_if false life life' still fed over = (over, refl)

pub began_keeps : (at : ℕ) (steps : List Happening) → KeepsOver (began at) steps
began_keeps at steps = λ place over. over_if (at == place) (life_of place steps)
    (record (life_of place steps) { has_begun = true }) (λ is. is) refl over

pub lost_keeps : (at : ℕ) (bytes : List ℕ) (steps : List Happening)
    → KeepsOver (lost at bytes) steps
lost_keeps at bytes steps = λ place over. (over, refl)

pub handed_keeps : (at : ℕ) (text : List ℕ) (steps : List Happening)
    → KeepsOver (handed at text) steps
handed_keeps at text steps = λ place over. over_if (at == place) (life_of place steps)
    (record (life_of place steps) { given = suc (life_of place steps).given }) (λ is. is) refl over

pub ended_keeps : (at : ℕ) (outcome : Outcome) (steps : List Happening)
    → KeepsOver (ended at outcome) steps
ended_keeps at outcome steps = λ place over. over_if (at == place) (life_of place steps)
    (record (life_of place steps) { is_over = true }) (λ is. refl) refl over

pub committed_keeps : (marks : List ℕ) (outcomes : List PlaceOutcome) (steps : List Happening)
    → KeepsOver (committed marks outcomes) steps
committed_keeps marks outcomes steps = λ place over. over_if (has place marks)
    (life_of place steps) (record (life_of place steps) { is_marked = true }) (λ is. is) refl over

pub received_keeps : (at : ℕ) (bytes : List ℕ) (steps : List Happening)
    → (life_of at steps).is_over ≡ false → KeepsOver (received at bytes) steps
received_keeps at bytes steps not_over = λ place over.
    let apart : at ≡ place → ⊥ = λ same.
    (let both : true ≡ false = sym over ∙ ap (λ (n : ℕ). (life_of n steps).is_over) (sym same)
    ∙ not_over in cc) in
    let same = life_elsewhere place (received at bytes) (life_of place steps) apart in
    (ap (λ (l : Life). l.is_over) same ∙ over, ap (λ (l : Life). l.fed) same)
