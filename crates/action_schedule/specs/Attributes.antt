-- The attributes of a schedule after its logical name, by their numbers (IEC 62056-6-2, class 22).
use Rattle.std.specs.Prelude.{ℕ, Bool, true, false, Option, Some, None, ◌==◌, if◌then◌else◌}
use Rattle.action_schedule.specs.declared.attribute.ScheduleAttribute.{ScheduleAttribute}
use Rattle.action_schedule.specs.declared.attribute.ScheduleAttribute.TheVariants.{ExecutedScript, Kind, ExecutionTime}

-- the attribute of a number: 2 executed_script, 3 type, 4 execution_time
abbrev pub attribute_numbered : ℕ → Option ScheduleAttribute
attribute_numbered number =
    if number == 2 then Some ExecutedScript
    else if number == 3 then Some Kind
    else if number == 4 then Some ExecutionTime
    else None

-- whether an attribute is an enum, so that reading it does not allocate
abbrev pub is_plain : ScheduleAttribute → Bool
is_plain ExecutedScript = false
is_plain Kind = true
is_plain ExecutionTime = false
