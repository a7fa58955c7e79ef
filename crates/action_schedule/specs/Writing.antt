-- The values of a schedule's attributes when read (IEC 62056-6-2, class 22): times and dates are
-- octet-strings.
use Rattle.std.specs.Prelude.{◌≡◌, List, [], ◌∷◌, map, Ok}
use Rattle.cosem_axdr.specs.declared.value.Data.{Data}
use Rattle.cosem_axdr.specs.declared.value.Data.TheVariants.{OctetString, Enum}
use Rattle.cosem_datetime.specs.Fields.{time_bytes, date_bytes}
use Rattle.cosem_datetime.specs.declared.entry.EntryPattern.{EntryPattern}
use Rattle.cosem_names.specs.Forms.{array_with, structure_with}
use Rattle.cosem_names.specs.Scripts.{script_at, script_data}
use Rattle.action_schedule.specs.Kinds.{number_of}
use Rattle.action_schedule.specs.Reading.{selector_of, kind_of, entries_of}
use Rattle.action_schedule.specs.Schedule.{Schedule}
use Rattle.action_schedule.specs.declared.attribute.ScheduleAttribute.{ScheduleAttribute}
use Rattle.action_schedule.specs.declared.attribute.ScheduleAttribute.TheVariants.{ExecutedScript, Kind, ExecutionTime}

-- an entry of execution_time: a structure of its time and its date as octet-strings
unfoldable pub entry_data : EntryPattern → Data
entry_data entry = structure_with (OctetString (time_bytes entry.time)
    ∷ OctetString (date_bytes entry.date) ∷ [])

-- the value of execution_time: an array with a structure for each entry
unfoldable pub entries_data : List EntryPattern → Data
entries_data entries = array_with (map entry_data entries)

-- the value of an attribute
abbrev pub data_at : ScheduleAttribute → Schedule → Data
data_at ExecutedScript schedule = script_data (script_at schedule.selector)
data_at Kind schedule = Enum (number_of schedule.kind)
data_at ExecutionTime schedule = entries_data schedule.entries

-- whether reading a Data as this attribute returns the schedule's own value of it
abbrev pub ReadsBack : ScheduleAttribute → Data → Schedule → Type 0
ReadsBack ExecutedScript value schedule = selector_of value ≡ Ok schedule.selector
ReadsBack Kind value schedule = kind_of value ≡ Ok schedule.kind
ReadsBack ExecutionTime value schedule = entries_of value ≡ Ok schedule.entries
