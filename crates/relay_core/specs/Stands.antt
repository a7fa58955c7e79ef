-- The relation between a core and the world that it represents: equal parts, and runs of samples
-- instead of all samples.
use Rattle.std.specs.Prelude.{◌≡◌, ℕ, Option}
use Rattle.relay_core.specs.declared.relay.RelayCore.{RelayCore}
use Rattle.limiter_core.specs.State.{State, CountsRows}
use Rattle.relay_core.specs.World.{World, LimiterState}

-- whether a limiter represents one with all its samples, at a moment of the clock: it has the runs
-- of those samples
pub record LimiterStateStands (limiter : State) (now : Option ℕ) (m : LimiterState) : Type 0 where
  pub settings : limiter.settings ≡ m.settings
  pub moment : limiter.moment ≡ now
  pub last : limiter.last ≡ m.last
  pub rows : CountsRows limiter m.rows

-- whether a core represents a world: it has all that the world has, with the moment in each
-- limiter, and the runs of the samples instead of the samples
pub record StandsFor (core : RelayCore) (w : World) : Type 0 where
  pub device : core.device ≡ w.device
  pub control : core.control ≡ w.control
  pub import : LimiterStateStands core.import w.moment w.import
  pub export : LimiterStateStands core.export w.moment w.export
  pub scripts : core.scripts ≡ w.scripts
  pub schedules : core.schedules ≡ w.schedules
