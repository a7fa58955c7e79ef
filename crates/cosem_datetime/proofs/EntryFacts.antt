-- Seconds of a day as seconds of the meter's time.
use Rattle.std.proofs.Common.{◌≡◌, ℕ, ◌+◌, ◌-◌, ◌*◌, ◌/◌, ◌%◌, ◌<◌, ◌≤◌, Bool, true, false, refl, sym, ap, ◌∙◌, arith}
use Rattle.std.specs.Prelude.{◌&&◌, nat_lt}
use Rattle.std.proofs.lemmas.Bool.Decides.{nat_tests}
use Rattle.cosem_datetime.specs.declared.entry.EntryPattern.{EntryPattern}
use Rattle.cosem_datetime.specs.Matching.{date_matches, time_matches, matches, matches_in, some_below}
use Rattle.cosem_datetime.specs.First.{TellsPassing}
use Rattle.cosem_datetime.proofs.Jiff.{first_day_is}
use Rattle.cosem_datetime.proofs.SomeFacts.{none_below_zero, some_below_found, none_below_each}

-- a second of the meter's time, by its day and its second of the day
pub matches_at : (entry : EntryPattern) (day s n : ℕ) → n ≡ 86400 * day + s → s < 86400
    → matches entry n ≡ date_matches entry.date (730_485 + day) && time_matches entry.time s
unfolding matches
matches_at entry day s n e h =
    let whole : n / 86400 ≡ day = omega arith in
    let left : n % 86400 ≡ s = omega arith in
    rw (whole, left, first_day_is) refl

false_and : (a b : Bool) → a ≡ false → a && b ≡ false
false_and a b e = rw e refl

and_same : (a b c : Bool) → a ≡ true → b ≡ c → a && b ≡ c
and_same a b c e f = rw (e, f) refl

-- on a day that the date does not match, no second matches
pub day_fails : (entry : EntryPattern) (day from to : ℕ) → to < 86400
    → date_matches entry.date (730_485 + day) ≡ false
    → TellsPassing (matches entry) (86400 * day + from) (86400 * day + to) false
day_fails entry day from to h e = record {
  found = λ f. absurd cc;
  none = λ f n low high.
      matches_at entry day (n - 86400 * day) n (omega arith) (omega arith) ∙ false_and _ _ e;
}

-- on a day that the date matches, the time decides
pub day_tells : (entry : EntryPattern) (day from to : ℕ) (answer : Bool) → to < 86400
    → date_matches entry.date (730_485 + day) ≡ true
    → TellsPassing (time_matches entry.time) from to answer
    → TellsPassing (matches entry) (86400 * day + from) (86400 * day + to) answer
day_tells entry day from to answer h e told = record {
  found = λ f.
      let s = told.found f in (
        86400 * day + s.0,
        (
          omega (arith, s.1.0),
          (
            omega (arith, s.1.1.0),
            matches_at entry day s.0 (86400 * day + s.0) refl
                (omega (arith, s.1.1.0)) ∙ and_same _ _ _ e s.1.1.1,
          ),
        ),
      );
  none = λ f n low high.
      matches_at entry day (n - 86400 * day) n (omega arith) (omega arith)
      ∙ and_same _ _ _ e (told.none f (n - 86400 * day) (omega arith) (omega arith));
}

-- the answer over an interval is the definition's
pub tells_in : (entry : EntryPattern) (after upto : ℕ) (answer : Bool)
    → TellsPassing (matches entry) (after + 1) upto answer → answer ≡ matches_in entry after upto
unfolding matches_in
tells_in entry after upto true told =
    let s = told.found refl in
    let k = s.0 - (after + 1) in
    let there : after + 1 + k ≡ s.0 = omega (arith, s.1.0) in
    sym (some_below_found _ (upto - after) k (omega (arith, s.1.0, s.1.1.0))
    (ap (matches entry) there ∙ s.1.1.1))
tells_in entry after upto false told =
    sym (none_below_each _ (upto - after) (λ k lt. told.none refl (after + 1 + k) (omega arith)
    (omega arith)))

-- no second is in an empty interval
pub none_in : (entry : EntryPattern) (after upto : ℕ) → upto ≤ after → nat_lt after upto
    ≡ matches_in entry after upto
unfolding matches_in
none_in entry after upto h =
    let empty : upto - after ≡ 0 = omega arith in
    let never : nat_lt after upto ≡ false = grind (arith, nat_tests) in
    never ∙ sym (ap (some_below (λ k. matches entry (after + 1 + k))) empty ∙ none_below_zero _)
