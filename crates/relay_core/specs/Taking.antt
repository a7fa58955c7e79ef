-- The effect of samples on a core.
use Rattle.std.specs.Prelude.{◌≡◌, ℕ, ◌≤◌, List}
use Rattle.relay_core.specs.declared.relay.RelayCore.{RelayCore}
use Rattle.relay_core.specs.declared.sampling.FiringCounts.{FiringCounts}
use Rattle.relay_core.specs.Sampling.{Measurement, SamplingState, after_samples}
use Rattle.relay_core.specs.Stands.{StandsFor}
use Rattle.relay_core.specs.World.{World}

-- the sampling state of a world and the firings so far
abbrev pub sampling_in : World → FiringCounts → SamplingState
sampling_in w firings = record { world = w; firings = firings }

-- whether a core took samples: for every world that it represented, it represents the world after
-- the samples, and their firings were counted
pub record Takes (old new : RelayCore) (before after : FiringCounts) (xs : List Measurement) : Type
    0
  where
    pub world : (w : World) → StandsFor old w
        → StandsFor new (after_samples xs (sampling_in w before)).world
    pub firings : (w : World) → StandsFor old w → after
        ≡ (after_samples xs (sampling_in w before)).firings

-- whether no side has fired more than `n` times
pub record AreAtMost (n : ℕ) (firings : FiringCounts) : Type 0 where
  pub import_over : firings.import_over ≤ n
  pub import_under : firings.import_under ≤ n
  pub export_over : firings.export_over ≤ n
  pub export_under : firings.export_under ≤ n
