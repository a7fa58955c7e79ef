-- A schedule is due exactly if it fits its type and some second of its window matches one of its
-- entries.
use Rattle.std.proofs.Common.{◌≡◌, ◌↔◌, ℕ, ◌+◌, ◌-◌, ◌<◌, ◌≤◌, Bool, true, false, ◌&&◌, ◌||◌, List, [], ◌∷◌, IsTrue, refl, sym, ap, ap₂, ◌∙◌, arith}
use Rattle.std.specs.List.{list_any}
use Rattle.cosem_datetime.specs.Matching.{matches, matches_in}
use Rattle.cosem_datetime.proofs.SomeFacts.{some_below_found, some_below_which}
use Rattle.cosem_datetime.specs.declared.entry.EntryPattern.{EntryPattern}
use Rattle.action_schedule.specs.Fitting.{fits, has_match, window_start, is_due, IsDue}
use Rattle.action_schedule.specs.Schedule.{Schedule}

-- a second of a window that one of the entries matches
record Matched (entries : List EntryPattern) (after upto : ℕ) : Type 0 where
  second : ℕ
  late : after < second
  early : second ≤ upto
  matched : list_any (λ entry. matches entry second) entries ≡ true

-- a second that the entry matches is found
found_in : (entry : EntryPattern) (after upto s : ℕ) → after < s → s ≤ upto → matches entry s ≡ true
    → matches_in entry after upto ≡ true
unfolding matches_in
found_in entry after upto s late early matched =
    let same : after + 1 + (s - (after + 1)) ≡ s = omega arith in
    some_below_found (λ k. matches entry (after + 1 + k)) (upto - after) (s - (after + 1))
    (omega arith) (ap (λ n. matches entry n) same ∙ matched)

-- what is found is a second that the entry matches
which_in : (entry : EntryPattern) (after upto : ℕ) → matches_in entry after upto ≡ true → (s : ℕ)
    × ((after < s) × ((s ≤ upto) × (matches entry s ≡ true)))
unfolding matches_in
which_in entry after upto e =
    let which = some_below_which (λ k. matches entry (after + 1 + k)) (upto - after) e in
    let within : which.0 < upto - after = which.1.0 in
    (after + 1 + which.0, (omega arith, (omega arith, which.1.1)))

-- one of two tests holds
either : (a b : Bool) → a || b ≡ true → (P : Type 0) → (a ≡ true → P) → (b ≡ true → P) → P
either true b e P first second = first refl
either false b e P first second = second e

or_right : (a b : Bool) → b ≡ true → a || b ≡ true
or_right true b e = refl
or_right false b e = e

or_left : (a b : Bool) → a ≡ true → a || b ≡ true
or_left a b e = ap (λ x. x || b) e

-- a second of the window that one of the entries matches is found
found_any : (entries : List EntryPattern) (after upto s : ℕ) → after < s → s ≤ upto
    → list_any (λ entry. matches entry s) entries ≡ true → has_match entries after upto ≡ true
found_any [] after upto s late early e = absurd cc
found_any (entry ∷ entries) after upto s late early e =
    either (matches entry s) (list_any (λ other. matches other s) entries) e
    (has_match (entry ∷ entries) after upto ≡ true)
    (λ here. or_left (matches_in entry after upto) (has_match entries after upto)
    (found_in entry after upto s late early here))
    (λ there. or_right (matches_in entry after upto) (has_match entries after upto)
    (found_any entries after upto s late early there))

which_any : (entries : List EntryPattern) (after upto : ℕ) → has_match entries after upto ≡ true
    → Matched entries after upto
which_any [] after upto e = absurd cc
which_any (entry ∷ entries) after upto e =
    either (matches_in entry after upto) (has_match entries after upto) e
    (Matched (entry ∷ entries) after upto)
    (λ here. let w = which_in entry after upto here in
    record {
      second = w.0;
      late = w.1.0;
      early = w.1.1.0;
      matched = or_left (matches entry w.0)
          (list_any (λ other. matches other w.0) entries) w.1.1.1;
    })
    (λ there. let w = which_any entries after upto there in
    record {
      second = w.second;
      late = w.late;
      early = w.early;
      matched = or_right (matches entry w.second)
          (list_any (λ other. matches other w.second) entries) w.matched;
    })

both : (a b : Bool) → a && b ≡ true → (a ≡ true) × (b ≡ true)
both true b e = (refl, e)
both false b e = absurd cc

-- the test returns true exactly if the schedule is due
pub due_means : (schedule : Schedule) (previous now : ℕ) (answer : Bool) → answer
    ≡ is_due schedule previous now → IsTrue answer ↔ IsDue schedule previous now
unfolding is_due
due_means schedule previous now answer is = (there, back)
  where
    there : IsTrue answer → IsDue schedule previous now
    there holds =
        let halves = both (fits schedule) (has_match schedule.entries (window_start previous now)
        now) (sym is ∙ holds) in
        let w = which_any schedule.entries (window_start previous now) now halves.1 in
        record {
          fit = halves.0;
          second = w.second;
          late = w.late;
          early = w.early;
          matched = w.matched;
        }

    back : IsDue schedule previous now → IsTrue answer
    back due = is ∙ ap₂ (λ a b. a && b) due.fit
        (found_any schedule.entries (window_start previous now) now due.second due.late due.early
        due.matched)
