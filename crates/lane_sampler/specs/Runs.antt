-- Runs of ones in a mask.
use Rattle.std.specs.Prelude.{◌≡◌, ℕ, ◌+◌, ◌-◌, ◌<◌, ◌≤◌, List}
use Rattle.lane_sampler.specs.Masks.{mask_bit}

-- whether the n bits of a mask from this one on are ones
abbrev pub AreOnes : List ℕ → ℕ → ℕ → Type 0
AreOnes words at n = (k : ℕ) → k < n → mask_bit words (at + k) ≡ 1

-- whether n is the number of ones from bit at up to the first zero or to len
pub record IsRun (words : List ℕ) (len at n : ℕ) : Type 0 where
  pub within : n ≤ len - at
  pub ones : AreOnes words at n
  pub stops : n < len - at → mask_bit words (at + n) ≡ 0

-- whether the bits from at to end are ones, followed by a zero or by len
pub record EndsAt (words : List ℕ) (len at end : ℕ) : Type 0 where
  pub from : at ≤ end
  pub ones : AreOnes words at (end - at)
  pub stops : end < len → mask_bit words end ≡ 0
