-- Runs that samples can give: the test and the meaning agree.
use Rattle.std.proofs.Common.{◌≡◌, ℕ, zero, suc, ◌<◌, ◌≤◌, Bool, true, false, ◌&&◌, ◌||◌, ◌==◌, nat_lt, refl, arith}
use Rattle.std.proofs.lemmas.Bool.Decides.{nat_tests}
use Rattle.limiter_core.specs.Counting.{cap}
use Rattle.limiter_core.specs.declared.count.Count.{Count}
use Rattle.limiter_core.specs.State.{IsFit, IsFitCount, is_fit_count, are_fit}

count_fits : (run : ℕ) (fired : Bool) → is_fit_count (record { run = run; fired = fired }) ≡ true
    → IsFitCount (record { run = run; fired = fired })
count_fits run true e = record {
  within = grind (arith, nat_tests);
  none = λ z. grind (arith, nat_tests);
  full = λ f. refl;
}
count_fits run false e = record {
  within = grind (arith, nat_tests);
  none = λ z. refl;
  full = λ f. grind (arith, nat_tests);
}

fit_counts : (run : ℕ) (fired : Bool) → IsFitCount (record { run = run; fired = fired })
    → is_fit_count (record { run = run; fired = fired }) ≡ true
fit_counts run true fits = let within : run ≤ cap = fits.within in grind (arith, nat_tests)
fit_counts run false fits = let within : run ≤ cap = fits.within in grind (arith, nat_tests)

first_holds : (a b : Bool) → (a && b) ≡ true → a ≡ true
first_holds true b e = refl
first_holds false b e = e

second_holds : (a b : Bool) → (a && b) ≡ true → b ≡ true
second_holds true b e = e
second_holds false b e = cc

both_hold : (a b : Bool) → a ≡ true → b ≡ true → (a && b) ≡ true
both_hold true b e f = f
both_hold false b e f = e

-- whether the last value can be over its threshold, or under it, if a run is
abbrev above_fits : ℕ → ℕ → ℕ → Bool
above_fits last over under = over == 0 || (under == 0 && nat_lt 0 last)

abbrev below_fits : ℕ → ℕ → Bool
below_fits last under = under == 0 || nat_lt last 4294967295

one_run : (last over under : ℕ) → above_fits last over under ≡ true → 0 < over → under ≡ 0
one_run last over under e some = grind (arith, nat_tests)

above_some : (last over under : ℕ) → above_fits last over under ≡ true → 0 < over → 0 < last
above_some last over under e some = grind (arith, nat_tests)

below_most : (last under : ℕ) → below_fits last under ≡ true → 0 < under → last < 4294967295
below_most last under e some = grind (arith, nat_tests)

above_again : (last over under : ℕ) → (0 < over → under ≡ 0) → (0 < over → 0 < last)
    → above_fits last over under ≡ true
above_again last zero under one above = refl
above_again last (suc over) under one above =
    let none : under ≡ 0 = one (omega arith) in
    let some : 0 < last = above (omega arith) in
    grind (arith, nat_tests)

below_again : (last under : ℕ) → (0 < under → last < 4294967295) → below_fits last under ≡ true
below_again last zero below = refl
below_again last (suc under) below =
    let less : last < 4294967295 = below (omega arith) in
    grind (arith, nat_tests)

pub test_means : (last : ℕ) (over under : Count) → are_fit last over under ≡ true
    → IsFit last over under
unfolding are_fit
test_means last over under e =
    let a = is_fit_count over in
    let b = is_fit_count under in
    let f = above_fits last over.run under.run in
    let g = below_fits last under.run in
    let abf : ((a && b) && f) ≡ true = first_holds ((a && b) && f) g e in
    let ab : (a && b) ≡ true = first_holds (a && b) f abf in
    let above : f ≡ true = second_holds (a && b) f abf in
    record {
      over_fits = count_fits over.run over.fired (first_holds a b ab);
      under_fits = count_fits under.run under.fired (second_holds a b ab);
      one = λ some. one_run last over.run under.run above some;
      above = λ some. above_some last over.run under.run above some;
      below = λ some. below_most last under.run (second_holds ((a && b) && f) g e) some;
    }

pub means_test : (last : ℕ) (over under : Count) → IsFit last over under → are_fit last over under
    ≡ true
unfolding are_fit
means_test last over under fits =
    let a = is_fit_count over in
    let b = is_fit_count under in
    let f = above_fits last over.run under.run in
    let g = below_fits last under.run in
    both_hold ((a && b) && f) g
    (both_hold (a && b) f (both_hold a b (fit_counts over.run over.fired fits.over_fits)
    (fit_counts under.run under.fired fits.under_fits))
    (above_again last over.run under.run fits.one fits.above))
    (below_again last under.run fits.below)
