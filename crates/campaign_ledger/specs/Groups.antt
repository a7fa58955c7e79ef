-- Marks and outcomes that are committed together.
--     has               a place is in a list
--     has_outcome       this outcome of a place is in a list
use Rattle.std.specs.Prelude.{◌≡◌, ◌⊎◌, ◌==◌, ℕ, Bool, true, false, if◌then◌else◌, List, [], ◌∷◌}
use Rattle.client_core.specs.declared.job.Outcome.{Outcome}
use Rattle.campaign_ledger.specs.declared.book.PlaceOutcome.{PlaceOutcome}

-- whether the place is in the list
abbrev pub has : ℕ → List ℕ → Bool
has place [] = false
has place (first ∷ places) = if place == first then true else has place places

-- whether this outcome of the place is in the list
abbrev pub has_outcome : ℕ → Outcome → List PlaceOutcome → Type 0
has_outcome place outcome [] = ⊥
has_outcome place outcome (first ∷ later) = ((first.place ≡ place) × (first.outcome ≡ outcome))
    ⊎ has_outcome place outcome later
