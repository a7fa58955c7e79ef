-- Samples of 32 bits.
use Rattle.std.proofs.Common.{◌≡◌, ℕ, zero, suc, ◌<◌, ◌≤◌, List, [], ◌∷◌, length, slice_index, arith}
use Rattle.std.specs.List.{zip}
use Rattle.trace_words.specs.Parts.{Each}
use Rattle.trace_lines.specs.Parts.{sample_part, pair_part}

pub samples_in_range : (values : List ℕ) → ((i : ℕ) → slice_index values i < 4294967296)
    → Each sample_part.Fits values
samples_in_range [] small = tt
samples_in_range (value ∷ values) small = (
  omega (arith, small 0),
  samples_in_range values (λ i. small (suc i)),
)

-- pairs of samples
pub pairs_fit : (imports exports : List ℕ) (most : ℕ) → length imports ≡ length exports
    → length imports ≤ most → Each sample_part.Fits imports → Each sample_part.Fits exports
    → (length (zip imports exports) ≤ most) × Each pair_part.Fits (zip imports exports)
pairs_fit [] exports most even few are others = (few, tt)
pairs_fit (import ∷ imports) [] most even few are others = absurd (omega arith)
pairs_fit (import ∷ imports) (export ∷ exports) zero even few are others = absurd (omega arith)
pairs_fit (import ∷ imports) (export ∷ exports) (suc most) even few are others =
    let rest = pairs_fit imports exports most (omega arith) (omega arith) are.1 others.1 in
    (omega (arith, rest.0), ((are.0, others.0), rest.1))
