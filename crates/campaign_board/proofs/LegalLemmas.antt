-- What follows from a legal history.
use Rattle.std.proofs.Common.{◌≡◌, ◌⊎◌, ◌<◌, ◌≤◌, ℕ, zero, suc, Bool, true, false, List, [], ◌∷◌, ◌++◌, Some, refl, sym, ◌∙◌, ap, subst, take, arith, inl, inr}
use Rattle.std.specs.Prelude.{if◌then◌else◌, ◌==◌, ◌&&◌, ◌||◌}
use Rattle.std.proofs.lemmas.Bool.{eqb-true, eq-eqb, cases_eq}
use Rattle.client_core.specs.declared.job.Outcome.{Outcome}
use Rattle.client_core.specs.declared.job.Verb.{Verb}
use Rattle.client_core.specs.declared.progress.Progress.{Progress}
use Rattle.client_core.specs.Outcomes.{progress_of, outcome_of, due_frames, is_served}
use Rattle.client_core.specs.Standing.{is_second}
use Rattle.client_core.specs.Texts.{text_at, aarq_frame, request_frame, release_frame}
use Rattle.campaign_ledger.specs.declared.book.PlaceOutcome.{PlaceOutcome}
use Rattle.campaign_ledger.specs.declared.entry.LedgerEntry.TheVariants.{NotSent}
use Rattle.campaign_ledger.specs.Groups.{has, has_outcome}
use Rattle.campaign_board.specs.Lives.{Happening, began, received, lost, handed, ended, committed, Life, life_of}
use Rattle.campaign_board.specs.Talks.{is_question, has_request, may_command, IsDue}
use Rattle.campaign_board.specs.Histories.{Terms, open_count, with_outcome, outcomes_since, IsLegal, AreSafe, three_texts, texts_of, connections_of, is_open, open_below, IsOutcomeAt}
use Rattle.campaign_board.proofs.Lists.{take_text, due_cases}
use Rattle.campaign_board.proofs.Steps.{AreOutcomes, outcomes_after, IsStepOf, life_elsewhere, elsewhere, began_keeps, received_keeps, lost_keeps, handed_keeps, ended_keeps}

-- ---- the number of connections

within_room : (terms : Terms) (steps : List Happening) → IsLegal terms steps
    → open_count steps ≤ terms.limit
within_room terms [] legal = omega arith
within_room terms (began at ∷ earlier) legal = let room = legal.0.room in omega arith
within_room terms (received at bytes ∷ earlier) legal = within_room terms earlier legal.1
within_room terms (lost at bytes ∷ earlier) legal = within_room terms earlier legal.1
within_room terms (handed at text ∷ earlier) legal = within_room terms earlier legal.1
within_room terms (ended at outcome ∷ earlier) legal =
    let before : open_count earlier ≤ terms.limit = within_room terms earlier legal.1 in omega arith
within_room terms (committed marks outcomes ∷ earlier) legal = within_room terms earlier legal.1

-- ---- the messages of a place

due_three : (verb : Verb) (password : List ℕ) (progress : Progress) (n : ℕ) (text : List ℕ)
    → text_at (due_frames verb password progress) n ≡ Some text
    → text_at (three_texts verb password) n ≡ Some text
due_three verb password progress n text is =
    due_cases progress.accepted (is_served progress.outcome) (aarq_frame password)
    (request_frame verb) release_frame n text is

one_more : (here : Bool) (texts : List (List ℕ)) (life : Life) (three : List (List ℕ))
    (text : List ℕ) → (here ≡ true → text_at three life.given ≡ Some text)
    → texts ≡ take life.given three
    → (if here then texts ++ text ∷ [] else texts)
    ≡ take (if here then record life { given = suc life.given } else life).given three
one_more true texts life three text next is =
    ap (λ (xs : List (List ℕ)). xs ++ text ∷ []) is ∙ take_text three life.given text (next refl)
one_more false texts life three text next is = is

same_given : (here : Bool) (life life' : Life) → life'.given ≡ life.given
    → (if here then life' else life).given ≡ life.given
same_given true life life' same = same
same_given false life life' same = refl

first_texts : (terms : Terms) (steps : List Happening) (place : ℕ) → IsLegal terms steps
    → texts_of place steps ≡ take (life_of place steps).given
    (three_texts (terms.job place).verb (terms.password place))
first_texts terms [] place legal = refl
first_texts terms (began at ∷ earlier) place legal =
    let three = three_texts (terms.job place).verb (terms.password place) in
    first_texts terms earlier place legal.1 ∙ ap (λ (n : ℕ). take n three)
    (sym (same_given (at == place) (life_of place earlier)
    (record (life_of place earlier) { has_begun = true }) refl))
first_texts terms (received at bytes ∷ earlier) place legal =
    let three = three_texts (terms.job place).verb (terms.password place) in
    first_texts terms earlier place legal.1 ∙ ap (λ (n : ℕ). take n three)
    (sym (same_given (at == place) (life_of place earlier)
    (record (life_of place earlier) { fed = (life_of place earlier).fed ++ bytes }) refl))
first_texts terms (lost at bytes ∷ earlier) place legal =
    first_texts terms earlier place legal.1
first_texts terms (handed at text ∷ earlier) place legal =
    one_more (at == place) (texts_of place earlier) (life_of place earlier)
    (three_texts (terms.job place).verb (terms.password place)) text
    (λ here. subst (λ (p : ℕ). text_at (three_texts (terms.job p).verb (terms.password p))
    (life_of p earlier).given ≡ Some text) (eqb-true at place here)
    (due_three (terms.job at).verb (terms.password at)
    (progress_of (terms.job at).verb (life_of at earlier).fed) (life_of at earlier).given text
    legal.0.1.text_is))
    (first_texts terms earlier place legal.1)
first_texts terms (ended at outcome ∷ earlier) place legal =
    let three = three_texts (terms.job place).verb (terms.password place) in
    first_texts terms earlier place legal.1 ∙ ap (λ (n : ℕ). take n three)
    (sym (same_given (at == place) (life_of place earlier)
    (record (life_of place earlier) { is_over = true }) refl))
first_texts terms (committed marks outcomes ∷ earlier) place legal =
    let three = three_texts (terms.job place).verb (terms.password place) in
    first_texts terms earlier place legal.1 ∙ ap (λ (n : ℕ). take n three)
    (sym (same_given (has place marks) (life_of place earlier)
    (record (life_of place earlier) { is_marked = true }) refl))

-- ---- the mark of a place

-- a place whose request was given is marked
abbrev IsMarkedFirst : Life → Type 0
IsMarkedFirst life = 2 ≤ life.given → life.is_marked ≡ true

marked_still : (here : Bool) (life life' : Life) → IsMarkedFirst life → IsMarkedFirst life'
    → IsMarkedFirst (if here then life' else life)
marked_still true life life' old new = new
marked_still false life life' old new = old

-- a switching request may be given only with its mark
may_marks : (question marked : Bool) → question ≡ false → (question || marked) ≡ true
    → marked ≡ true
may_marks true marked none is = absurd cc
may_marks false marked none is = is

mark_by : (given : ℕ) (marked : Bool) → (given ≡ 1 → marked ≡ true)
    → (2 ≤ given → marked ≡ true) → 2 ≤ suc given → marked ≡ true
mark_by zero marked one old two = absurd (omega arith)
mark_by (suc zero) marked one old two = one refl
mark_by (suc (suc given)) marked one old two = old (omega arith)

marked_given : (verb : Verb) (life : Life) → is_question verb ≡ false
    → (life.given ≡ 1 → may_command verb life.is_marked ≡ true) → IsMarkedFirst life
    → IsMarkedFirst (record life { given = suc life.given })
marked_given verb life switches may old = λ two. mark_by life.given life.is_marked
    (λ one. may_marks (is_question verb) life.is_marked switches (may one)) old two

marked_handed : (terms : Terms) (at place : ℕ) (earlier : List Happening) (here : Bool)
    → (at == place) ≡ here → is_question (terms.job place).verb ≡ false
    → ((life_of at earlier).given ≡ 1
    → may_command (terms.job at).verb (life_of at earlier).is_marked ≡ true)
    → IsMarkedFirst (life_of place earlier)
    → IsMarkedFirst (if here then record (life_of place earlier) {
      given = suc (life_of place earlier).given;
    } else life_of place earlier)
marked_handed terms at place earlier false apart switches allowed old = old
marked_handed terms at place earlier true same switches allowed old =
    marked_given (terms.job place).verb (life_of place earlier) switches
    (subst (λ (p : ℕ). (life_of p earlier).given ≡ 1
    → may_command (terms.job p).verb (life_of p earlier).is_marked ≡ true) (eqb-true at place same)
    allowed) old

marked_first : (terms : Terms) (steps : List Happening) (place : ℕ) → IsLegal terms steps
    → is_question (terms.job place).verb ≡ false → IsMarkedFirst (life_of place steps)
marked_first terms [] place legal switches = λ two. absurd (omega arith)
marked_first terms (began at ∷ earlier) place legal switches =
    let old = marked_first terms earlier place legal.1 switches in
    marked_still (at == place) (life_of place earlier)
    (record (life_of place earlier) { has_begun = true }) old old
marked_first terms (received at bytes ∷ earlier) place legal switches =
    let old = marked_first terms earlier place legal.1 switches in
    marked_still (at == place) (life_of place earlier)
    (record (life_of place earlier) { fed = (life_of place earlier).fed ++ bytes }) old old
marked_first terms (lost at bytes ∷ earlier) place legal switches =
    marked_first terms earlier place legal.1 switches
marked_first terms (handed at text ∷ earlier) place legal switches =
    marked_handed terms at place earlier (at == place) refl switches legal.0.1.allowed
    (marked_first terms earlier place legal.1 switches)
marked_first terms (ended at outcome ∷ earlier) place legal switches =
    let old = marked_first terms earlier place legal.1 switches in
    marked_still (at == place) (life_of place earlier)
    (record (life_of place earlier) { is_over = true }) old old
marked_first terms (committed marks outcomes ∷ earlier) place legal switches =
    marked_still (has place marks) (life_of place earlier)
    (record (life_of place earlier) { is_marked = true })
    (marked_first terms earlier place legal.1 switches) (λ two. refl)

-- ---- marked places were reached

-- a marked place has a connection on which the AARQ was given, for a job that switches
abbrev IsReached : Verb → Life → Type 0
IsReached verb life = life.is_marked ≡ true
    → (life.has_begun ≡ true) × (is_question verb ≡ false) × (1 ≤ life.given)

reached_still : (verb : Verb) (here : Bool) (life life' : Life) → IsReached verb life
    → IsReached verb life' → IsReached verb (if here then life' else life)
reached_still verb true life life' old new = new
reached_still verb false life life' old new = old

no_question : (question marked : Bool) → (question || marked) ≡ false → question ≡ false
no_question true marked is = absurd cc
no_question false marked is = refl

one_given : (given : ℕ) (accepted : Bool) → (is_second given && accepted) ≡ true → 1 ≤ given
one_given zero accepted is = absurd cc
one_given (suc given) accepted is = omega arith

reached_due : (verb : Verb) (life : Life) → IsDue verb life
    → IsReached verb (record life { is_marked = true })
reached_due verb life due = λ is. (
  due.is_open.has_begun,
  no_question (is_question verb) life.is_marked due.waits,
  one_given life.given (progress_of verb life.fed).accepted due.is_next,
)

reached_committed : (verb : Verb) (here : Bool) (life : Life)
    → (here ≡ true → IsDue verb life) → IsReached verb life
    → IsReached verb (if here then record life { is_marked = true } else life)
reached_committed verb true life due old = reached_due verb life (due refl)
reached_committed verb false life due old = old

reached_first : (terms : Terms) (steps : List Happening) (place : ℕ) → IsLegal terms steps
    → IsReached (terms.job place).verb (life_of place steps)
reached_first terms [] place legal = λ is. absurd cc
reached_first terms (began at ∷ earlier) place legal =
    let old = reached_first terms earlier place legal.1 in
    reached_still (terms.job place).verb (at == place) (life_of place earlier)
    (record (life_of place earlier) { has_begun = true }) old
    (λ is. let was = old is in (refl, was.1, was.2))
reached_first terms (received at bytes ∷ earlier) place legal =
    let old = reached_first terms earlier place legal.1 in
    reached_still (terms.job place).verb (at == place) (life_of place earlier)
    (record (life_of place earlier) { fed = (life_of place earlier).fed ++ bytes }) old old
reached_first terms (lost at bytes ∷ earlier) place legal =
    reached_first terms earlier place legal.1
reached_first terms (handed at text ∷ earlier) place legal =
    let old = reached_first terms earlier place legal.1 in
    reached_still (terms.job place).verb (at == place) (life_of place earlier)
    (record (life_of place earlier) { given = suc (life_of place earlier).given }) old
    (λ is. let was = old is in (was.0, was.1, omega arith))
reached_first terms (ended at outcome ∷ earlier) place legal =
    let old = reached_first terms earlier place legal.1 in
    reached_still (terms.job place).verb (at == place) (life_of place earlier)
    (record (life_of place earlier) { is_over = true }) old old
reached_first terms (committed marks outcomes ∷ earlier) place legal =
    reached_committed (terms.job place).verb (has place marks) (life_of place earlier)
    (λ here. legal.0.0 place here) (reached_first terms earlier place legal.1)

-- ---- what began

-- a place that began is one of the campaign, whose command was not sent before; one that is over
-- began
pub record HasBegun (terms : Terms) (place : ℕ) (life : Life) : Type 0 where
  pub within : life.has_begun ≡ true → place < terms.count
  pub not_sent : life.has_begun ≡ true → terms.found place ≡ NotSent
  pub over : life.is_over ≡ true → life.has_begun ≡ true

begun_still : (terms : Terms) (place : ℕ) (here : Bool) (life life' : Life)
    → HasBegun terms place life → (here ≡ true → HasBegun terms place life')
    → HasBegun terms place (if here then life' else life)
begun_still terms place true life life' old new = new refl
begun_still terms place false life life' old new = old

begun_same : (terms : Terms) (place : ℕ) (life life' : Life)
    → life'.has_begun ≡ life.has_begun → life'.is_over ≡ life.is_over → HasBegun terms place life
    → HasBegun terms place life'
begun_same terms place life life' begun over old = record {
  within = λ is. old.within (sym begun ∙ is);
  not_sent = λ is. old.not_sent (sym begun ∙ is);
  over = λ is. begun ∙ old.over (sym over ∙ is);
}

pub has_begun : (terms : Terms) (steps : List Happening) (place : ℕ) → IsLegal terms steps
    → HasBegun terms place (life_of place steps)
has_begun terms [] place legal = record {
  within = λ is. absurd cc;
  not_sent = λ is. absurd cc;
  over = λ is. absurd cc;
}
has_begun terms (began at ∷ earlier) place legal =
    begun_still terms place (at == place) (life_of place earlier)
    (record (life_of place earlier) { has_begun = true }) (has_begun terms earlier place legal.1)
    (λ here. record {
      within = λ is. subst (λ (p : ℕ). p < terms.count) (eqb-true at place here) legal.0.within;
      not_sent = λ is. subst (λ (p : ℕ). terms.found p ≡ NotSent) (eqb-true at place here)
          legal.0.not_sent;
      over = λ is. refl;
    })
has_begun terms (received at bytes ∷ earlier) place legal =
    let old = has_begun terms earlier place legal.1 in
    begun_still terms place (at == place) (life_of place earlier)
    (record (life_of place earlier) { fed = (life_of place earlier).fed ++ bytes }) old
    (λ here. begun_same terms place (life_of place earlier)
    (record (life_of place earlier) { fed = (life_of place earlier).fed ++ bytes }) refl refl old)
has_begun terms (lost at bytes ∷ earlier) place legal = has_begun terms earlier place legal.1
has_begun terms (handed at text ∷ earlier) place legal =
    let old = has_begun terms earlier place legal.1 in
    begun_still terms place (at == place) (life_of place earlier)
    (record (life_of place earlier) { given = suc (life_of place earlier).given }) old
    (λ here. begun_same terms place (life_of place earlier)
    (record (life_of place earlier) { given = suc (life_of place earlier).given }) refl refl old)
has_begun terms (ended at outcome ∷ earlier) place legal =
    let old = has_begun terms earlier place legal.1 in
    begun_still terms place (at == place) (life_of place earlier)
    (record (life_of place earlier) { is_over = true }) old
    (λ here. record {
      within = old.within;
      not_sent = old.not_sent;
      over = λ is. subst (λ (p : ℕ). (life_of p earlier).has_begun ≡ true)
          (eqb-true at place here) legal.0.0.has_begun;
    })
has_begun terms (committed marks outcomes ∷ earlier) place legal =
    let old = has_begun terms earlier place legal.1 in
    begun_still terms place (has place marks) (life_of place earlier)
    (record (life_of place earlier) { is_marked = true }) old
    (λ here. begun_same terms place (life_of place earlier)
    (record (life_of place earlier) { is_marked = true }) refl refl old)

-- ---- the connections of a place

-- one if it is so, else none
abbrev count_if : Bool → ℕ
count_if true = 1
count_if false = 0

began_same : (here : Bool) (life life' : Life) → life'.has_begun ≡ life.has_begun
    → (if here then life' else life).has_begun ≡ life.has_begun
began_same true life life' same = same
began_same false life life' same = refl

one_connection : (here : Bool) (connections : ℕ) (life : Life)
    → (here ≡ true → life.has_begun ≡ false) → connections ≡ count_if life.has_begun
    → (if here then suc connections else connections)
    ≡ count_if (if here then record life { has_begun = true } else life).has_begun
one_connection true connections life new is = rw (is, new refl) refl
one_connection false connections life new is = is

connections : (terms : Terms) (steps : List Happening) (place : ℕ) → IsLegal terms steps
    → connections_of place steps ≡ count_if (life_of place steps).has_begun
connections terms [] place legal = refl
connections terms (began at ∷ earlier) place legal =
    one_connection (at == place) (connections_of place earlier) (life_of place earlier)
    (λ here. subst (λ (p : ℕ). (life_of p earlier).has_begun ≡ false) (eqb-true at place here)
    legal.0.is_new) (connections terms earlier place legal.1)
connections terms (received at bytes ∷ earlier) place legal =
    connections terms earlier place legal.1 ∙ ap count_if (sym (began_same (at == place)
    (life_of place earlier)
    (record (life_of place earlier) { fed = (life_of place earlier).fed ++ bytes }) refl))
connections terms (lost at bytes ∷ earlier) place legal = connections terms earlier place legal.1
connections terms (handed at text ∷ earlier) place legal =
    connections terms earlier place legal.1 ∙ ap count_if (sym (began_same (at == place)
    (life_of place earlier)
    (record (life_of place earlier) { given = suc (life_of place earlier).given }) refl))
connections terms (ended at outcome ∷ earlier) place legal =
    connections terms earlier place legal.1 ∙ ap count_if (sym (began_same (at == place)
    (life_of place earlier) (record (life_of place earlier) { is_over = true }) refl))
connections terms (committed marks outcomes ∷ earlier) place legal =
    connections terms earlier place legal.1 ∙ ap count_if (sym (began_same (has place marks)
    (life_of place earlier) (record (life_of place earlier) { is_marked = true }) refl))

at_most_one : (begun : Bool) (n : ℕ) → n ≡ count_if begun → n ≤ 1
at_most_one true n is = rw is (omega arith)
at_most_one false n is = rw is (omega arith)

one_begun : (begun : Bool) (n : ℕ) → n ≡ count_if begun → 1 ≤ n → begun ≡ true
one_begun true n is one = refl
one_begun false n is one = absurd (omega (arith, is))

-- ---- the number of open places

below_same : (n : ℕ) (old new : List Happening)
    → ((place : ℕ) → place < n → is_open (life_of place new) ≡ is_open (life_of place old))
    → open_below n new ≡ open_below n old
below_same zero old new same = refl
below_same (suc n) old new same =
    rw (same n (omega arith), below_same n old new (λ place within. same place (omega arith))) refl

below_more : (n at : ℕ) (old new : List Happening) → at < n
    → is_open (life_of at old) ≡ false → is_open (life_of at new) ≡ true
    → ((place : ℕ) → (at ≡ place → ⊥)
    → is_open (life_of place new) ≡ is_open (life_of place old))
    → open_below n new ≡ suc (open_below n old)
below_more zero at old new within closed opened same = absurd (omega arith)
below_more (suc n) at old new within closed opened same = elim (cases_eq at n) [
  | inl here ↦ here_more n at old new here closed opened (below_same n old new
      (λ place below. same place (λ is. absurd (omega (arith, here, is)))))
  | inr apart ↦ apart_more (is_open (life_of n old)) n old new refl (same n apart)
      (below_more n at old new (omega (arith, within, apart)) closed opened same)
]
  where
    here_more : (n at : ℕ) (old new : List Happening) → at ≡ n
        → is_open (life_of at old) ≡ false → is_open (life_of at new) ≡ true
        → open_below n new ≡ open_below n old
        → open_below (suc n) new ≡ suc (open_below (suc n) old)
    here_more n at old new here closed opened same =
        let closed_n : is_open (life_of n old) ≡ false =
        subst (λ (p : ℕ). is_open (life_of p old) ≡ false) here closed in
        let opened_n : is_open (life_of n new) ≡ true =
        subst (λ (p : ℕ). is_open (life_of p new) ≡ true) here opened in
        rw (closed_n, opened_n, same) refl

    apart_more : (open_n : Bool) (n : ℕ) (old new : List Happening)
        → is_open (life_of n old) ≡ open_n
        → is_open (life_of n new) ≡ is_open (life_of n old)
        → open_below n new ≡ suc (open_below n old)
        → open_below (suc n) new ≡ suc (open_below (suc n) old)
    apart_more true n old new is same more = rw (same, is, more) refl
    apart_more false n old new is same more = rw (same, is, more) refl

open_if : (here : Bool) (life life' : Life) → is_open life' ≡ is_open life
    → is_open (if here then life' else life) ≡ is_open life
open_if true life life' same = same
open_if false life life' same = refl

apart_same : (at place : ℕ) (step : Happening) (steps : List Happening) → IsStepOf at step
    → (at ≡ place → ⊥) → is_open (life_of place (step ∷ steps)) ≡ is_open (life_of place steps)
apart_same at place step steps here apart = ap is_open
    (life_elsewhere place step (life_of place steps) (elsewhere at place step here apart))

and_false : (b : Bool) → (b && false) ≡ false
and_false true = refl
and_false false = refl

-- a place that has not begun is not over
not_over : (begun over : Bool) → (over ≡ true → begun ≡ true) → begun ≡ false → over ≡ false
not_over begun true is none = absurd (let both : true ≡ false = sym (is refl) ∙ none in cc)
not_over begun false is none = refl

open_not_begun : (life : Life) → life.has_begun ≡ false → is_open life ≡ false
open_not_begun life none = rw none refl

open_begun : (life : Life) → life.has_begun ≡ true → life.is_over ≡ false → is_open life ≡ true
open_begun life begun over = rw (begun, over) refl

counted : (terms : Terms) (steps : List Happening) → IsLegal terms steps
    → open_count steps ≡ open_below terms.count steps
counted terms [] legal = none_below terms.count
  where
    none_below : (n : ℕ) → 0 ≡ open_below n []
    none_below zero = refl
    none_below (suc n) = none_below n
counted terms (began at ∷ earlier) legal =
    let new = has_begun terms earlier at legal.1 in
    ap suc (counted terms earlier legal.1)
    ∙ sym (below_more terms.count at earlier (began at ∷ earlier) legal.0.within
    (open_not_begun (life_of at earlier) legal.0.is_new)
    (rw (eq-eqb at at refl) (open_begun (record (life_of at earlier) { has_begun = true }) refl
    (not_over (life_of at earlier).has_begun (life_of at earlier).is_over new.over
    legal.0.is_new)))
    (λ place apart. apart_same at place (began at) earlier refl apart))
counted terms (received at bytes ∷ earlier) legal =
    counted terms earlier legal.1
    ∙ sym (below_same terms.count earlier (received at bytes ∷ earlier)
    (λ place within. open_if (at == place) (life_of place earlier)
    (record (life_of place earlier) { fed = (life_of place earlier).fed ++ bytes }) refl))
counted terms (lost at bytes ∷ earlier) legal =
    counted terms earlier legal.1
    ∙ sym (below_same terms.count earlier (lost at bytes ∷ earlier) (λ place within. refl))
counted terms (handed at text ∷ earlier) legal =
    counted terms earlier legal.1
    ∙ sym (below_same terms.count earlier (handed at text ∷ earlier)
    (λ place within. open_if (at == place) (life_of place earlier)
    (record (life_of place earlier) { given = suc (life_of place earlier).given }) refl))
counted terms (ended at outcome ∷ earlier) legal =
    let begun = has_begun terms earlier at legal.1 in
    let more = below_more terms.count at (ended at outcome ∷ earlier) earlier
    (begun.within legal.0.0.has_begun)
    (rw (eq-eqb at at refl) (and_false (life_of at earlier).has_begun))
    (open_begun (life_of at earlier) legal.0.0.has_begun legal.0.0.is_not_over)
    (λ place apart. sym (apart_same at place (ended at outcome) earlier refl apart)) in
    let before = counted terms earlier legal.1 in
    omega (arith, before, more)
counted terms (committed marks outcomes ∷ earlier) legal =
    counted terms earlier legal.1
    ∙ sym (below_same terms.count earlier (committed marks outcomes ∷ earlier)
    (λ place within. open_if (has place marks) (life_of place earlier)
    (record (life_of place earlier) { is_marked = true }) refl))

-- ---- the jobs of one address

-- if the one has begun, the other is over
abbrev IsAfter : Life → Life → Type 0
IsAfter life other = life.has_begun ≡ true → other.is_over ≡ true

over_still : (there : Bool) (other other' : Life) → (other.is_over ≡ true → other'.is_over ≡ true)
    → other.is_over ≡ true → (if there then other' else other).is_over ≡ true
over_still true other other' still over = still over
over_still false other other' still over = over

after_still : (here there : Bool) (life life' other other' : Life)
    → (life'.has_begun ≡ true → life.has_begun ≡ true)
    → (other.is_over ≡ true → other'.is_over ≡ true) → IsAfter life other
    → IsAfter (if here then life' else life) (if there then other' else other)
after_still true there life life' other other' back still after begun =
    over_still there other other' still (after (back begun))
after_still false there life life' other other' back still after begun =
    over_still there other other' still (after begun)

begins_after : (here there : Bool) (life other : Life) → (here ≡ true → other.is_over ≡ true)
    → IsAfter life other
    → IsAfter (if here then record life { has_begun = true } else life)
    (if there then record other { has_begun = true } else other)
begins_after true there life other first after begun =
    over_still there other (record other { has_begun = true }) (λ over. over) (first refl)
begins_after false there life other first after begun =
    over_still there other (record other { has_begun = true }) (λ over. over) (after begun)

after_other : (terms : Terms) (steps : List Happening) (place other : ℕ) → IsLegal terms steps
    → other < place → terms.found other ≡ NotSent
    → (terms.job other).address ≡ (terms.job place).address
    → IsAfter (life_of place steps) (life_of other steps)
after_other terms [] place other legal before fresh same = λ begun. absurd cc
after_other terms (began at ∷ earlier) place other legal before fresh same =
    begins_after (at == place) (at == other) (life_of place earlier) (life_of other earlier)
    (λ here. legal.0.alone other
    (subst (λ (p : ℕ). other < p) (sym (eqb-true at place here)) before) fresh
    (same ∙ ap (λ (p : ℕ). (terms.job p).address) (sym (eqb-true at place here))))
    (after_other terms earlier place other legal.1 before fresh same)
after_other terms (received at bytes ∷ earlier) place other legal before fresh same =
    after_still (at == place) (at == other) (life_of place earlier)
    (record (life_of place earlier) { fed = (life_of place earlier).fed ++ bytes })
    (life_of other earlier)
    (record (life_of other earlier) { fed = (life_of other earlier).fed ++ bytes })
    (λ begun. begun) (λ over. over) (after_other terms earlier place other legal.1 before fresh
    same)
after_other terms (lost at bytes ∷ earlier) place other legal before fresh same =
    after_other terms earlier place other legal.1 before fresh same
after_other terms (handed at text ∷ earlier) place other legal before fresh same =
    after_still (at == place) (at == other) (life_of place earlier)
    (record (life_of place earlier) { given = suc (life_of place earlier).given })
    (life_of other earlier)
    (record (life_of other earlier) { given = suc (life_of other earlier).given })
    (λ begun. begun) (λ over. over) (after_other terms earlier place other legal.1 before fresh
    same)
after_other terms (ended at outcome ∷ earlier) place other legal before fresh same =
    after_still (at == place) (at == other) (life_of place earlier)
    (record (life_of place earlier) { is_over = true }) (life_of other earlier)
    (record (life_of other earlier) { is_over = true })
    (λ begun. begun) (λ over. refl) (after_other terms earlier place other legal.1 before fresh
    same)
after_other terms (committed marks outcomes ∷ earlier) place other legal before fresh same =
    after_still (has place marks) (has other marks) (life_of place earlier)
    (record (life_of place earlier) { is_marked = true }) (life_of other earlier)
    (record (life_of other earlier) { is_marked = true })
    (λ begun. begun) (λ over. over) (after_other terms earlier place other legal.1 before fresh
    same)

-- ---- the outcomes that are to be committed

-- an outcome of two lists is in one of them
in_either : (at : ℕ) (outcome : Outcome) (xs ys : List PlaceOutcome)
    → has_outcome at outcome (xs ++ ys) → has_outcome at outcome xs ⊎ has_outcome at outcome ys
in_either at outcome [] ys is = inr is
in_either at outcome (x ∷ xs) ys (inl here) = inl (inl here)
in_either at outcome (x ∷ xs) ys (inr later) = elim (in_either at outcome xs ys later) [
  | inl first ↦ inl (inr first)
  | inr second ↦ inr second
]

ended_here : (terms : Terms) (steps : List Happening) (at other : ℕ) (outcome found : Outcome)
    → IsOutcomeAt terms steps at outcome → at ≡ other → outcome ≡ found
    → ((life_of other (ended at outcome ∷ steps)).is_over ≡ true)
    × IsOutcomeAt terms (ended at outcome ∷ steps) other found
ended_here terms steps at other outcome found is same this =
    rw (eq-eqb at other same) (
      refl,
      sym this
          ∙ subst (λ (n : ℕ). outcome ≡ outcome_of (terms.job n).verb
          (life_of n steps).fed) same is,
    )

ended_newest : (terms : Terms) (steps : List Happening) (at other : ℕ) (outcome found : Outcome)
    → IsOutcomeAt terms steps at outcome
    → has_outcome other found (record { place = at; outcome = outcome } ∷ [])
    → ((life_of other (ended at outcome ∷ steps)).is_over ≡ true)
    × IsOutcomeAt terms (ended at outcome ∷ steps) other found
ended_newest terms steps at other outcome found is (inl both) =
    ended_here terms steps at other outcome found is both.0 both.1
ended_newest terms steps at other outcome found is (inr none) = absurd none

ended_outcomes : (terms : Terms) (steps : List Happening) (asked : Bool) (at : ℕ)
    (outcome : Outcome) (old : List PlaceOutcome) → IsOutcomeAt terms steps at outcome
    → AreOutcomes terms steps old
    → AreOutcomes terms (ended at outcome ∷ steps) (with_outcome asked at outcome old)
ended_outcomes terms steps false at outcome old is are =
    outcomes_after terms steps (ended at outcome) old (ended_keeps at outcome steps) are
ended_outcomes terms steps true at outcome old is are = λ other found has_it.
    elim (in_either other found old (record { place = at; outcome = outcome } ∷ []) has_it) [
      | inl first ↦ outcomes_after terms steps (ended at outcome) old
          (ended_keeps at outcome steps) are other found first
      | inr last ↦ ended_newest terms steps at other outcome found is last
    ]

are_outcomes : (terms : Terms) (steps : List Happening) → IsLegal terms steps
    → AreOutcomes terms steps (outcomes_since steps)
are_outcomes terms [] legal = λ at outcome none. absurd none
are_outcomes terms (began at ∷ earlier) legal = outcomes_after terms earlier (began at)
    (outcomes_since earlier) (began_keeps at earlier) (are_outcomes terms earlier legal.1)
are_outcomes terms (received at bytes ∷ earlier) legal = outcomes_after terms earlier
    (received at bytes) (outcomes_since earlier)
    (received_keeps at bytes earlier legal.0.is_not_over)
    (are_outcomes terms earlier legal.1)
are_outcomes terms (lost at bytes ∷ earlier) legal = outcomes_after terms earlier (lost at bytes)
    (outcomes_since earlier) (lost_keeps at bytes earlier) (are_outcomes terms earlier legal.1)
are_outcomes terms (handed at text ∷ earlier) legal = outcomes_after terms earlier (handed at text)
    (outcomes_since earlier) (handed_keeps at text earlier) (are_outcomes terms earlier legal.1)
are_outcomes terms (ended at outcome ∷ earlier) legal = ended_outcomes terms earlier
    (has_request (life_of at earlier).given) at outcome (outcomes_since earlier) legal.0.1
    (are_outcomes terms earlier legal.1)
are_outcomes terms (committed marks outcomes ∷ earlier) legal = λ at outcome none. absurd none

-- what holds of each legal history
pub legal_safe : (terms : Terms) (steps : List Happening) → IsLegal terms steps
    → AreSafe terms steps
legal_safe terms steps legal = record {
  counted = counted terms steps legal;
  room = within_room terms steps legal;
  once = λ place. at_most_one (life_of place steps).has_begun (connections_of place steps)
      (connections terms steps place legal);
  not_sent = λ place one. (has_begun terms steps place legal).not_sent
      (one_begun (life_of place steps).has_begun (connections_of place steps)
      (connections terms steps place legal) one);
  texts = λ place. first_texts terms steps place legal;
  marked = λ place switches two. marked_first terms steps place legal switches two;
  reached = λ place is. reached_first terms steps place legal is;
  alone = λ place other before fresh same begun. after_other terms steps place other legal before
      fresh same begun;
  outcomes = are_outcomes terms steps legal;
}
