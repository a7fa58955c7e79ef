-- The four single action schedules, and how their attributes are read and written (IEC 62056-6-2,
-- class 22).
use Rattle.std.specs.Prelude.{List, [], ◌∷◌, Option, Some, Result, Ok, Err}
use Rattle.action_schedule.specs.declared.attribute.ScheduleAttribute.{ScheduleAttribute}
use Rattle.action_schedule.specs.declared.attribute.ScheduleAttribute.TheVariants.{ExecutedScript, Kind}
use Rattle.cosem_names.specs.WriteFault.{fault_code}
use Rattle.cosem_names.specs.declared.write_fault.WriteFault.{WriteFault}
use Rattle.action_schedule.specs.Reading.{selector_of, kind_of}
use Rattle.action_schedule.specs.Schedule.{Schedule, with_selector, with_kind}
use Rattle.cosem_axdr.specs.declared.value.Data.{Data}
use Rattle.cosem_names.specs.declared.objects.ScheduleNumber.{ScheduleNumber}
use Rattle.cosem_names.specs.declared.objects.ScheduleNumber.TheVariants.{First, Second, Third, Fourth}
use Rattle.cosem_names.specs.declared.result_code.ResultCode.{ResultCode}
use Rattle.cosem_names.specs.declared.result_code.ResultCode.TheVariants.{Success, ReadWriteDenied}
use Rattle.relay_core.specs.declared.schedules.Schedules.{Schedules}

-- one of the schedules
abbrev pub schedule_of : ScheduleNumber → Schedules → Schedule
schedule_of First s = s.first
schedule_of Second s = s.second
schedule_of Third s = s.third
schedule_of Fourth s = s.fourth

-- the schedules with one of them replaced
abbrev pub with_schedule : ScheduleNumber → Schedule → Schedules → Schedules
with_schedule First schedule s = record s { first = schedule }
with_schedule Second schedule s = record s { second = schedule }
with_schedule Third schedule s = record s { third = schedule }
with_schedule Fourth schedule s = record s { fourth = schedule }

-- the schedules in the order in which they run
abbrev pub all_schedules : Schedules → List Schedule
all_schedules s = s.first ∷ s.second ∷ s.third ∷ s.fourth ∷ []

-- the result code of a write
abbrev pub write_code : {A : Type 0} → Result A WriteFault → ResultCode
write_code (Ok x) = Success
write_code (Err fault) = fault_code fault

-- a schedule after a write of an attribute other than its list of entries; a refused write leaves
-- it unchanged
unfoldable pub schedule_after_write : Option ScheduleAttribute → Data → Schedule → Schedule
schedule_after_write (Some ExecutedScript) value schedule =
    with_selector (selector_of value) schedule
schedule_after_write (Some Kind) value schedule = with_kind (kind_of value) schedule
schedule_after_write _ value schedule = schedule

-- the result code of a write to a schedule, of an attribute other than its list of entries
unfoldable pub schedule_code : Option ScheduleAttribute → Data → ResultCode
schedule_code (Some ExecutedScript) value = write_code (selector_of value)
schedule_code (Some Kind) value = write_code (kind_of value)
schedule_code _ value = ReadWriteDenied
