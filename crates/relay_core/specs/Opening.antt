-- The saved state (opening) of a core, and the world that an opening gives.
use Rattle.std.specs.Prelude.{◌≡◌, ◌≤◌, length}
use Rattle.disconnect_control.specs.declared.state.ControlState.TheVariants.{Connected}
use Rattle.disconnect_control.specs.declared.state.ControlMode.TheVariants.{Mode0}
use Rattle.limiter_core.specs.Opening.{opened_rows}
use Rattle.limiter_core.specs.State.{State, IsFit}
use Rattle.limiter_attributes.specs.Reading.{max_groups}
use Rattle.relay_core.specs.declared.opening.LimiterOpening.{LimiterOpening}
use Rattle.relay_core.specs.declared.opening.Opening.{Opening}
use Rattle.relay_core.specs.declared.relay.RelayCore.{RelayCore}
use Rattle.relay_core.specs.World.{World, LimiterState, IsDeviceName}

-- the saved state of a limiter
abbrev pub limiter_opening_of : State → LimiterOpening
limiter_opening_of limiter =
    record {
      settings = limiter.settings;
      value = limiter.last;
      over = limiter.over;
      under = limiter.under;
    }

-- the saved state of a core
abbrev pub opening_of : RelayCore → Opening
opening_of core = record {
  device = core.device;
  state = core.control.state;
  mode = core.control.mode;
  moment = core.import.moment;
  import = limiter_opening_of core.import;
  export = limiter_opening_of core.export;
  scripts = core.scripts;
  schedules = core.schedules;
}

-- the limiter that an opening gives; its rows are not the samples that its runs counted, but the
-- same number of samples with its last value
abbrev pub opened_limiter : LimiterOpening → LimiterState
opened_limiter o = record {
  settings = o.settings;
  last = o.value;
  rows = opened_rows o.value o.over o.under;
}

-- the world that an opening gives
abbrev pub world_of_opening : Opening → World
world_of_opening o = record {
  device = o.device;
  control = record { state = o.state; mode = o.mode };
  moment = o.moment;
  import = opened_limiter o.import;
  export = opened_limiter o.export;
  scripts = o.scripts;
  schedules = o.schedules;
}

-- whether a saved limiter can occur: some samples give its runs, and it has at most 32 group ids
pub record IsFitLimiterOpening (o : LimiterOpening) : Type 0 where
  pub runs : IsFit o.value o.over o.under
  pub groups : length o.settings.groups ≤ max_groups

-- whether a saved core can occur: it has a device name of 1 to 16 bytes, mode 0 only in Connected,
-- and limiters that can occur
pub record IsFitOpening (o : Opening) : Type 0 where
  pub device : IsDeviceName o.device
  pub control : o.mode ≡ Mode0 → o.state ≡ Connected
  pub import : IsFitLimiterOpening o.import
  pub export : IsFitLimiterOpening o.export
