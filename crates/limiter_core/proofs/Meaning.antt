-- What the rules over rows mean.
use Rattle.std.proofs.Common.{◌≡◌, ℕ, suc, zero, ◌<◌, Bool, true, false, ◌||◌, ◌⊎◌, inl, inr, List, [], ◌∷◌, drop, nat_lt, refl, ap, arith}
use Rattle.limiter_core.specs.Rows.{Row, Sample, Entry, Side, OverThreshold, UnderThreshold, is_past, run, reaches, any_below, has_fired, fires}
use Rattle.limiter_core.proofs.Firing.{fires_other}
use Rattle.limiter_core.proofs.Skipping.{not_both}

either : (a b : Bool) → (a || b) ≡ true → (a ≡ true) ⊎ (b ≡ true)
either true b e = inl refl
either false b e = inr e

first_of_two : (a b : Bool) → a ≡ true → (a || b) ≡ true
first_of_two a b e = ap (λ v. v || b) e

second_of_two : (a b : Bool) → b ≡ true → (a || b) ≡ true
second_of_two true b e = refl
second_of_two false b e = e

below_some : (p : ℕ → Bool) (n : ℕ) → any_below p n ≡ true → (k : ℕ) × (k < n) × (p k ≡ true)
unfolding any_below
below_some p zero e = cc
below_some p (suc n) e = elim (either (p 0) (any_below (λ k. p (suc k)) n) e) [
  | inl here ↦ (0, omega arith, here)
  | inr later ↦ let found : (k : ℕ) × (k < n) × (p (suc k) ≡ true) =
      below_some (λ k. p (suc k)) n later in
      let less : found.0 < n = found.1 in (suc found.0, omega (arith, less), found.2)
]

some_below : (p : ℕ → Bool) (n k : ℕ) → k < n → p k ≡ true → any_below p n ≡ true
unfolding any_below
some_below p zero k less e = absurd (omega arith)
some_below p (suc n) zero less e = first_of_two (p 0) (any_below (λ k. p (suc k)) n) e
some_below p (suc n) (suc k) less e = second_of_two (p 0) (any_below (λ j. p (suc j)) n)
    (some_below (λ j. p (suc j)) n k (omega arith) e)

pub fired_at_some : (side : Side) (rows : List Row) → has_fired side rows ≡ true → (k : ℕ)
    × (k < run side rows) × (reaches side (drop k rows) ≡ true)
unfolding has_fired
fired_at_some side rows e = below_some (λ k. reaches side (drop k rows)) (run side rows) e

pub some_fired : (side : Side) (rows : List Row) (k : ℕ) → k < run side rows
    → reaches side (drop k rows) ≡ true → has_fired side rows ≡ true
unfolding has_fired
some_fired side rows k less e = some_below (λ j. reaches side (drop j rows))
    (run side rows) k less e

fires_past_if : (b : Bool) (side : Side) (row : Row) (rows : List Row) → is_past side row ≡ b
    → fires side (row ∷ rows) ≡ true → is_past side row ≡ true
fires_past_if true side row rows e fires = e
fires_past_if false side row rows e fires = let none = fires_other side row rows e in cc

fires_past : (side : Side) (row : Row) (rows : List Row) → fires side (row ∷ rows) ≡ true
    → is_past side row ≡ true
fires_past side row rows e = fires_past_if (is_past side row) side row rows refl e

pub not_both_sides : (rows : List Row) → fires OverThreshold rows ≡ true → fires UnderThreshold rows
    ≡ true → ⊥
unfolding fires reaches
not_both_sides [] over under = cc
not_both_sides (Entry ∷ rows) over under = let past = fires_past OverThreshold Entry rows over in cc
not_both_sides (Sample value threshold need_over need_under ∷ rows) over under =
    let above : nat_lt threshold value ≡ true =
    fires_past OverThreshold (Sample value threshold need_over need_under) rows over in
    let below : nat_lt value threshold ≡ true =
    fires_past UnderThreshold (Sample value threshold need_over need_under) rows under in
    let apart : nat_lt value threshold ≡ false = not_both threshold value above in
    cc
