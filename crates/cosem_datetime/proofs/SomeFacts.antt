-- Whether some number below a bound passes a test.
use Rattle.std.proofs.Common.{◌≡◌, ℕ, zero, suc, ◌+◌, ◌<◌, ◌⊎◌, inl, inr, Bool, true, false, refl, sym, ap, ◌∙◌, arith, add-one}
use Rattle.std.specs.Prelude.{◌||◌}
use Rattle.std.proofs.lemmas.Bool.{cases_order}
use Rattle.cosem_datetime.specs.Matching.{some_below}

or_false : (a b : Bool) → a ≡ false → b ≡ false → a || b ≡ false
or_false a b e f = rw e f

or_left : (a b : Bool) → a ≡ true → a || b ≡ true
or_left a b e = rw e refl

or_right : (a b : Bool) → b ≡ true → a || b ≡ true
or_right true b e = refl
or_right false b e = e

or_which : (a b : Bool) → a || b ≡ true → (a ≡ true) ⊎ (b ≡ true)
or_which true b e = inl refl
or_which false b e = inr e

neither_left : (a b : Bool) → a || b ≡ false → a ≡ false
neither_left true b e = e
neither_left false b e = refl

neither_right : (a b : Bool) → a || b ≡ false → b ≡ false
neither_right true b e = absurd cc
neither_right false b e = e

pub none_below_zero : (test : ℕ → Bool) → some_below test 0 ≡ false
unfolding some_below
none_below_zero test = refl

pub none_below_more : (test : ℕ → Bool) (n : ℕ) → some_below test n ≡ false → test n ≡ false
    → some_below test (n + 1) ≡ false
unfolding some_below
none_below_more test n h e = rw add-one (or_false _ _ h e)

pub some_below_found : (test : ℕ → Bool) (n k : ℕ) → k < n → test k ≡ true
    → some_below test n ≡ true
unfolding some_below
some_below_found test zero k lt e = absurd (omega arith)
some_below_found test (suc n) k lt e =
    elim (cases_order k n) [
      | inl same ↦ or_right _ _ (ap test (sym same) ∙ e)
      | inr (inl less) ↦ or_left _ _ (some_below_found test n k less e)
      | inr (inr more) ↦ absurd (omega arith)
    ]

pub some_below_which : (test : ℕ → Bool) (n : ℕ) → some_below test n ≡ true → (k : ℕ)
    × ((k < n) × (test k ≡ true))
unfolding some_below
some_below_which test zero e = absurd cc
some_below_which test (suc n) e =
    elim (or_which _ _ e) [
      | inl h ↦ let found = some_below_which test n h in (
        found.0,
        (omega (arith, found.1.0), found.1.1),
      )
      | inr h ↦ (n, (omega arith, h))
    ]

pub none_below_each : (test : ℕ → Bool) (n : ℕ) → ((k : ℕ) → k < n → test k ≡ false)
    → some_below test n ≡ false
unfolding some_below
none_below_each test zero h = refl
none_below_each test (suc n) h =
    or_false _ _ (none_below_each test n (λ k lt. h k (omega arith))) (h n (omega arith))
