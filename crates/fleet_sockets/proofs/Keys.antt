-- Keys that are appended twice are appended.
use Rattle.std.proofs.Common.{◌≡◌, ◌∙◌, ap, ℕ, List, ◌++◌, append_assoc}

-- a list grows, and grows again
pub joined : (old between new : List ℕ) → (keys : List ℕ) × (between ≡ old ++ keys)
    → (keys : List ℕ) × (new ≡ between ++ keys) → (keys : List ℕ) × (new ≡ old ++ keys)
joined old between new first next = (
  first.0 ++ next.0,
  next.1 ∙ ap (λ (keys : List ℕ). keys ++ next.0) first.1 ∙ append_assoc old first.0 next.0,
)

-- a list has grown, and more keys are appended
pub grown : (old between new more : List ℕ) → (keys : List ℕ) × (between ≡ old ++ keys)
    → new ≡ between ++ more → (keys : List ℕ) × (new ≡ old ++ keys)
grown old between new more first next = joined old between new first (more, next)
