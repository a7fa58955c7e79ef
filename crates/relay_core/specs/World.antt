-- The mathematical model of the meter, with every sample it ever took, and a new meter.
use Rattle.std.specs.Prelude.{ℕ, ◌≤◌, List, [], length, Option, None}
use Rattle.cosem_names.specs.declared.result_code.ResultCode.{ResultCode}
use Rattle.disconnect_control.specs.declared.state.ControlState.TheVariants.{Connected}
use Rattle.disconnect_control.specs.declared.state.ControlMode.TheVariants.{Mode0}
use Rattle.disconnect_control.specs.Control.{Control}
use Rattle.action_schedule.specs.Schedule.{new_schedule}
use Rattle.limiter_core.specs.declared.settings.Settings.{Settings}
use Rattle.limiter_core.specs.Rows.{Row}
use Rattle.limiter_core.specs.Settings.{new_settings}
use Rattle.relay_events.specs.declared.reply.Reply.{Reply}
use Rattle.relay_core.specs.declared.schedules.Schedules.{Schedules}
use Rattle.script_steps.specs.declared.step.Script.{Script}

-- A limiter: its settings, its last sample, and a row for every sample it ever took and for every
-- entry into Connected, newest first.
pub record LimiterState : Type 0 where
  pub settings : Settings
  pub last : ℕ
  pub rows : List Row

-- The meter: its device name, its supply switch, the last moment of its clock, the limiters of
-- imported and of exported power, its scripts and its schedules.
pub record World : Type 0 where
  pub device : List ℕ
  pub control : Control
  pub moment : Option ℕ
  pub import : LimiterState
  pub export : LimiterState
  pub scripts : List Script
  pub schedules : Schedules

-- whether a device name has 1 to 16 bytes
abbrev pub IsDeviceName : List ℕ → Type 0
IsDeviceName device = (1 ≤ length device) × (length device ≤ 16)

-- The effect of a call: the world after it, and its result code.
pub record Outcome : Type 0 where
  pub world : World
  pub code : ResultCode

-- The effect of an event: the world after it, and its reply.
pub record Stepped : Type 0 where
  pub world : World
  pub reply : Reply

-- the schedules of a new meter
abbrev pub new_schedules : Schedules
new_schedules = record {
  first = new_schedule;
  second = new_schedule;
  third = new_schedule;
  fourth = new_schedule;
}

-- a new limiter, which has taken no sample
abbrev pub new_limiter_state : LimiterState
new_limiter_state = record { settings = new_settings; last = 0; rows = [] }

-- a new meter of this device name
abbrev pub new_world : List ℕ → World
new_world device = record {
  device = device;
  control = record { state = Connected; mode = Mode0 };
  moment = None;
  import = new_limiter_state;
  export = new_limiter_state;
  scripts = [];
  schedules = new_schedules;
}
