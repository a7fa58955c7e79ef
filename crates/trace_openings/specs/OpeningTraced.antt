-- The openings whose written lines are read back: all numbers are in the ranges of their types.
--     AreIds               group ids of 16 bits
--     IsTracedLimiter      a limiter with numbers in their ranges
--     IsTracedSchedule     a schedule with numbers in their ranges
--     IsTracedScript       a script with numbers in their ranges
--     IsWritable           an opening of such parts that a core can have
use Rattle.std.specs.Prelude.{ℕ, ◌≤◌, List, IfSome}
use Rattle.std.specs.List.{All}
use Rattle.hex.specs.Hex.{IsBytes}
use Rattle.action_schedule.specs.Schedule.{Schedule, AreEntries}
use Rattle.cosem_datetime.specs.Fields.{IsDateTimeFields}
use Rattle.relay_core.specs.Opening.{IsFitOpening}
use Rattle.relay_core.specs.declared.opening.LimiterOpening.{LimiterOpening}
use Rattle.relay_core.specs.declared.opening.Opening.{Opening}
use Rattle.script_steps.specs.Table.{IsTable}
use Rattle.trace_words.specs.Parts.{Each}
use Rattle.script_steps.specs.declared.step.Script.{Script}
use Rattle.script_steps.specs.declared.step.Step.{Step}
use Rattle.script_steps.specs.declared.step.Step.TheVariants.{WriteNormal, WriteEmergency, WriteProfile}

-- whether all group ids have 16 bits
abbrev pub AreIds : List ℕ → Type 0
AreIds ids = Each (λ id. id ≤ 65535) ids

-- whether a saved limiter has watts and seconds of 32 bits, ids and selectors of 16 bits, and a
-- start with fields in their ranges
pub record IsTracedLimiter (o : LimiterOpening) : Type 0 where
  pub value : o.value ≤ 4294967295
  pub threshold_normal : o.settings.threshold_normal ≤ 4294967295
  pub threshold_emergency : o.settings.threshold_emergency ≤ 4294967295
  pub min_over_threshold_duration : o.settings.min_over_threshold_duration ≤ 4294967295
  pub min_under_threshold_duration : o.settings.min_under_threshold_duration ≤ 4294967295
  pub profile_id : o.settings.profile.id ≤ 65535
  pub profile_start : IsDateTimeFields o.settings.profile.start
  pub profile_duration : o.settings.profile.duration ≤ 4294967295
  pub groups : AreIds o.settings.groups
  pub over_selector : o.settings.actions.over ≤ 65535
  pub under_selector : o.settings.actions.under ≤ 65535

-- whether a schedule has a selector of 16 bits and entries that a schedule can have
pub record IsTracedSchedule (schedule : Schedule) : Type 0 where
  pub selector : schedule.selector ≤ 65535
  pub entries : AreEntries schedule.entries

-- whether the watts have 32 bits, a profile's id 16 bits and its seconds 32 bits; the other parts
-- of a step are in their ranges in every table
abbrev pub IsTracedStep : Step → Type 0
IsTracedStep (WriteNormal which watts) = watts ≤ 4294967295
IsTracedStep (WriteEmergency which watts) = watts ≤ 4294967295
IsTracedStep (WriteProfile which profile) = (profile.id ≤ 65535) × (profile.duration ≤ 4294967295)
IsTracedStep _ = Unit {0}

-- whether a script has an identifier of 16 bits and steps with numbers in their ranges
pub record IsTracedScript (script : Script) : Type 0 where
  pub identifier : script.identifier ≤ 65535
  pub steps : All IsTracedStep script.steps

-- whether a core can have an opening and all its numbers are in the ranges of their types, so that
-- its lines are read back
pub record IsWritable (o : Opening) : Type 0 where
  pub fit : IsFitOpening o
  pub device : IsBytes o.device
  pub moment : IfSome o.moment (λ moment. moment ≤ 4294967295)
  pub import : IsTracedLimiter o.import
  pub export : IsTracedLimiter o.export
  pub scripts : IsTable o.scripts
  pub script_numbers : All IsTracedScript o.scripts
  pub first : IsTracedSchedule o.schedules.first
  pub second : IsTracedSchedule o.schedules.second
  pub third : IsTracedSchedule o.schedules.third
  pub fourth : IsTracedSchedule o.schedules.fourth
