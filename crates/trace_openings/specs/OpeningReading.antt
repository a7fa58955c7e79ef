-- An opening, read from its lines.
--     settings_from, limiter_from, export_from   the lines of a limiter
--     opening_from                               all lines from the version to the last schedule
use Rattle.std.specs.Prelude.{◌≡◌, ℕ, List, Option, Ok, codes}
use Rattle.wire_bytes.specs.Outcome.{◌>>=◌}
use Rattle.cosem_names.specs.declared.objects.Which.{Which}
use Rattle.cosem_names.specs.declared.objects.Which.TheVariants.{Import, Export}
use Rattle.disconnect_control.specs.declared.state.ControlMode.{ControlMode}
use Rattle.disconnect_control.specs.declared.state.ControlState.{ControlState}
use Rattle.disconnect_control.specs.declared.state.ControlMode.TheVariants.{Mode0}
use Rattle.disconnect_control.specs.declared.state.ControlState.TheVariants.{Connected}
use Rattle.limiter_core.specs.Counting.{no_run}
use Rattle.limiter_core.specs.Settings.{new_settings}
use Rattle.limiter_core.specs.declared.settings.Settings.{Settings}
use Rattle.relay_core.specs.World.{IsDeviceName}
use Rattle.relay_core.specs.declared.opening.LimiterOpening.{LimiterOpening}
use Rattle.relay_core.specs.declared.opening.Opening.{Opening}
use Rattle.relay_core.specs.declared.schedules.Schedules.{Schedules}
use Rattle.trace_openings.specs.OpeningFields.{label, version_from, device_in, state_in, mode_in, moment_in, profile_from, groups_from, actions_from, over_from, under_from, table_in, schedule_from}
use Rattle.trace_words.specs.Labels.{labelled_value}
use Rattle.trace_words.specs.Places.{Place, ReadLines, line_as}
use Rattle.trace_words.specs.Reading.{value_in}
use Rattle.trace_words.specs.declared.version.Version.{Version}
use Rattle.trace_words.specs.declared.version.Version.TheVariants.{One, Two}

-- ---- a limiter

-- the line of a value of a limiter
abbrev pub value_line : Which → Place → ReadLines ℕ
value_line which place = line_as (labelled_value (label which (codes "value")) value_in) place

-- the lines of a limiter's settings
unfoldable pub settings_from : Which → Place → ReadLines Settings
settings_from which place = do
  normal ← line_as (labelled_value (label which (codes "normal")) value_in) place
  emergency ← line_as (labelled_value (label which (codes "emergency")) value_in) normal.1
  min_over ← line_as (labelled_value (label which (codes "minover")) value_in) emergency.1
  min_under ← line_as (labelled_value (label which (codes "minunder")) value_in) min_over.1
  profile ← line_as (profile_from which) min_under.1
  groups ← line_as (groups_from which) profile.1
  actions ← line_as (actions_from which) groups.1
  Ok (
    record {
      threshold_normal = normal.0;
      threshold_emergency = emergency.0;
      min_over_threshold_duration = min_over.0;
      min_under_threshold_duration = min_under.0;
      profile = profile.0;
      groups = groups.0;
      actions = actions.0;
    },
    actions.1,
  )

-- a limiter's lines after that of its last sample
unfoldable pub limiter_from : Which → ℕ → Place → ReadLines LimiterOpening
limiter_from which last place = do
  settings ← settings_from which place
  over ← line_as (over_from which last) settings.1
  under ← line_as (under_from which last over.0) over.1
  Ok (record { settings = settings.0; value = last; over = over.0; under = under.0 }, under.1)

-- a limiter that is new
abbrev pub new_limiter : LimiterOpening
new_limiter = record { settings = new_settings; value = 0; over = no_run; under = no_run }

-- the export limiter, which has no lines in version 1 and is then new
unfoldable pub export_from : Version → Place → ReadLines LimiterOpening
export_from One place = Ok (new_limiter, place)
export_from Two place = do
  last ← value_line Export place
  limiter_from Export last.0 last.1

-- ---- all of it

-- the four schedules of an opening, read from its lines
unfoldable pub schedules_from : Place → ReadLines Schedules
schedules_from place = do
  first ← line_as (schedule_from 0) place
  second ← line_as (schedule_from 1) first.1
  third ← line_as (schedule_from 2) second.1
  fourth ← line_as (schedule_from 3) third.1
  Ok (record { first = first.0; second = second.0; third = third.0; fourth = fourth.0 }, fourth.1)

-- whether the device name has 1 to 16 bytes, and the control mode fits the control state
pub record IsFitStart (device : List ℕ) (state : ControlState) (mode : ControlMode) : Type 0 where
  pub named : IsDeviceName device
  pub control : mode ≡ Mode0 → state ≡ Connected

-- the rest of an opening, from the lines after those of the import limiter
unfoldable pub opening_after_import : Version → List ℕ → ControlState → ControlMode → Option ℕ
    → LimiterOpening → Place → ReadLines Opening
opening_after_import version device state mode moment import place = do
  export ← export_from version place
  scripts ← line_as (labelled_value (codes "scripts") table_in) export.1
  schedules ← schedules_from scripts.1
  Ok (
    record {
      device = device;
      state = state;
      mode = mode;
      moment = moment;
      import = import;
      export = export.0;
      scripts = scripts.0;
      schedules = schedules.0;
    },
    schedules.1,
  )

-- an opening with this device name, state and mode, its other parts from the lines after these
unfoldable pub opening_with : Version → List ℕ → ControlState → ControlMode → Place
    → ReadLines Opening
opening_with version device state mode place = do
  last ← value_line Import place
  moment ← line_as (labelled_value (codes "now") moment_in) last.1
  import ← limiter_from Import last.0 moment.1
  export ← export_from version import.1
  scripts ← line_as (labelled_value (codes "scripts") table_in) export.1
  schedules ← schedules_from scripts.1
  Ok (
    record {
      device = device;
      state = state;
      mode = mode;
      moment = moment.0;
      import = import.0;
      export = export.0;
      scripts = scripts.0;
      schedules = schedules.0;
    },
    schedules.1,
  )

-- the opening, from the lines after that of the version
unfoldable pub opening_in : Version → Place → ReadLines Opening
opening_in version place = do
  device ← line_as (labelled_value (codes "device") device_in) place
  state ← line_as (labelled_value (codes "state") state_in) device.1
  mode ← line_as (labelled_value (codes "mode") (mode_in state.0)) state.1
  opening_with version device.0 state.0 mode.0 mode.1

-- the version and the opening of a trace
unfoldable pub opening_from : Place → ReadLines (Version × Opening)
opening_from place = do
  version ← line_as version_from place
  opening ← opening_in version.0 version.1
  Ok ((version.0, opening.0), opening.1)
