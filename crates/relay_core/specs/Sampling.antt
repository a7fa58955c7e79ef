-- Samples, one by one. Each becomes its limiter's last sample and the newest of its rows. A side
-- that fires runs its script before the next sample is taken.
use Rattle.std.specs.Prelude.{ℕ, ◌+◌, List, [], ◌∷◌, Option, Some, None, map}
use Rattle.cosem_names.specs.declared.objects.Which.{Which}
use Rattle.cosem_names.specs.declared.objects.Which.TheVariants.{Import, Export}
use Rattle.lane_sampler.specs.Samples.{Samples}
use Rattle.limiter_core.specs.declared.kinds.Fire.{Fire}
use Rattle.limiter_core.specs.declared.kinds.Fire.TheVariants.{Quiet, Over, Under}
use Rattle.limiter_core.specs.declared.settings.Actions.{Actions}
use Rattle.limiter_core.specs.Rows.{fire_of}
use Rattle.limiter_core.specs.Settings.{limits_at, row_of}
use Rattle.relay_events.specs.declared.reply.Reply.{Reply}
use Rattle.relay_events.specs.declared.reply.Reply.TheVariants.{Sampled, SampledBoth}
use Rattle.relay_core.specs.declared.sampling.FiringCounts.{FiringCounts}
use Rattle.relay_core.specs.declared.scripts.Origin.TheVariants.{Local}
use Rattle.relay_core.specs.Limiters.{limiter_state_of, with_limiter_state}
use Rattle.relay_core.specs.Scripts.{at_script}
use Rattle.relay_core.specs.World.{World, LimiterState, Stepped}
use Rattle.script_steps.specs.Table.{running_steps}

-- a sample of a limiter, in watts
pub record Measurement : Type 0 where
  pub which : Which
  pub value : ℕ

-- import samples only, in order
abbrev pub imports : List ℕ → List Measurement
imports values = map (λ value. record { which = Import; value = value }) values

-- pairs in order, each as an import sample followed by an export sample
abbrev pub pairs : List ℕ → List ℕ → List Measurement
pairs (value ∷ values) (other ∷ others) =
    record { which = Import; value = value } ∷ record { which = Export; value = other }
    ∷ pairs values others
pairs _ _ = []

-- the samples of a block in the order in which they are applied, from the imported and perhaps the
-- exported power
abbrev pub measurements_in : List ℕ → Option (List ℕ) → List Measurement
measurements_in values None = imports values
measurements_in values (Some others) = pairs values others

-- the samples of a block in the order in which they are applied
abbrev pub measurements : Samples → List Measurement
measurements samples = measurements_in samples.import samples.export

-- a limiter with one more sample, at a moment of the clock
abbrev pub with_sample : Option ℕ → ℕ → LimiterState → LimiterState
with_sample moment value m =
    record m { last = value; rows = row_of (limits_at m.settings moment) value ∷ m.rows }

-- which side a sample fires, if any
unfoldable pub fire_at : Measurement → World → Fire
fire_at x w = fire_of (with_sample w.moment x.value (limiter_state_of x.which w)).rows

-- the world after a side has fired: the script of its action runs with the meter as its origin (IEC
-- 62056-6-2, class 71, actions)
unfoldable pub after_fire : Fire → Actions → World → World
after_fire Quiet actions w = w
after_fire Over actions w = (at_script Local (running_steps actions.over w.scripts) w).world
after_fire Under actions w = (at_script Local (running_steps actions.under w.scripts) w).world

-- the world after a sample
unfoldable pub after_sample : Measurement → World → World
after_sample x w =
    after_fire (fire_at x w) (limiter_state_of x.which w).settings.actions
    (with_limiter_state x.which (with_sample w.moment x.value (limiter_state_of x.which w)) w)

-- the counts before the first sample: no side has fired
abbrev pub no_firings : FiringCounts
no_firings = record { import_over = 0; import_under = 0; export_over = 0; export_under = 0 }

-- the counts with one more firing
unfoldable pub with_firing : Which → Fire → FiringCounts → FiringCounts
with_firing which Quiet firings = firings
with_firing Import Over firings = record firings { import_over = firings.import_over + 1 }
with_firing Import Under firings = record firings { import_under = firings.import_under + 1 }
with_firing Export Over firings = record firings { export_over = firings.export_over + 1 }
with_firing Export Under firings = record firings { export_under = firings.export_under + 1 }

-- The world during a block of samples, and how often each side has fired in that block.
pub record SamplingState : Type 0 where
  pub world : World
  pub firings : FiringCounts

-- the state after one more sample
unfoldable pub sampling_after : Measurement → SamplingState → SamplingState
sampling_after x m = record {
  world = after_sample x m.world;
  firings = with_firing x.which (fire_at x m.world) m.firings;
}

-- the state after several samples, in order
unfoldable pub after_samples : List Measurement → SamplingState → SamplingState
after_samples [] m = m
after_samples (x ∷ xs) m = after_samples xs (sampling_after x m)

-- the reply to a block: how often each side fired, for one limiter or for both
abbrev pub reply_of_firings : Option (List ℕ) → FiringCounts → Reply
reply_of_firings None firings = Sampled firings.import_over firings.import_under
reply_of_firings (Some others) firings =
    SampledBoth firings.import_over firings.import_under firings.export_over firings.export_under

-- the effect of a block of samples
unfoldable pub at_samples : Samples → World → Stepped
at_samples samples w =
    let m = after_samples (measurements samples) (record { world = w; firings = no_firings }) in
    record { world = m.world; reply = reply_of_firings samples.export m.firings }
