-- The lists that a client writes. They are decoded separately from the write, because decoding them
-- is all that a write needs memory for.
use Rattle.std.specs.Prelude.{ℕ, Bool, List, Option, Some, None, Result, Ok, Err, ◌==◌, if◌then◌else◌}
use Rattle.action_schedule.specs.Reading.{entries_of}
use Rattle.action_schedule.specs.Schedule.{new_schedule}
use Rattle.cosem_axdr.specs.declared.value.Data.{Data}
use Rattle.cosem_datetime.specs.declared.entry.EntryPattern.{EntryPattern}
use Rattle.cosem_names.specs.WriteFault.{fault_code}
use Rattle.cosem_names.specs.declared.level.Level.{Level}
use Rattle.cosem_names.specs.declared.name.AttrRef.{AttrRef}
use Rattle.cosem_names.specs.declared.objects.Instance.{Instance}
use Rattle.cosem_names.specs.declared.objects.Instance.TheVariants.{ScriptTable, Schedule, Limiter}
use Rattle.cosem_names.specs.declared.result_code.ResultCode.{ResultCode}
use Rattle.cosem_names.specs.declared.write_fault.WriteFault.{WriteFault}
use Rattle.cosem_names.specs.Objects.{rights_of}
use Rattle.limiter_attributes.specs.Reading.{groups_of}
use Rattle.limiter_attributes.specs.Settings.{limiter_with_groups}
use Rattle.relay_events.specs.declared.event.Event.{Event}
use Rattle.relay_events.specs.declared.event.Event.TheVariants.{Set}
use Rattle.relay_core.specs.declared.parts.Parts.{Parts}
use Rattle.relay_core.specs.declared.parts.Parts.TheVariants as part
use Rattle.relay_core.specs.declared.parts.WrittenList.{WrittenList}
use Rattle.relay_core.specs.declared.parts.WrittenList.TheVariants as written
use Rattle.relay_core.specs.Access.{target_of}
use Rattle.relay_core.specs.Limiters.{limiter_state_of, with_limiter_state, with_settings}
use Rattle.relay_core.specs.Schedules.{schedule_of, with_schedule}
use Rattle.relay_core.specs.World.{World}
use Rattle.script_steps.specs.declared.step.Script.{Script}
use Rattle.script_steps.specs.Reading.{table_of}

-- the attributes that are lists (IEC 62056-6-2): scripts of class 9, execution_time of class 22,
-- emergency_profile_group_id_list of class 71
abbrev pub list_numbered : Instance → ℕ → Option WrittenList
list_numbered ScriptTable number = if number == 2 then Some written.Scripts else None
list_numbered (Schedule which) number = if number == 4 then Some (written.Entries which) else None
list_numbered (Limiter which) number = if number == 9 then Some (written.Groups which) else None
list_numbered _ number = None

-- the decoded scripts of a script table, or the result code of the refusal
abbrev pub scripts_part : Result (List Script) WriteFault → Result Parts ResultCode
scripts_part (Ok scripts) = Ok (part.Scripts scripts)
scripts_part (Err fault) = Err (fault_code fault)

-- the decoded execution times of a schedule, or the result code of the refusal
abbrev pub entries_part : Result (List EntryPattern) WriteFault → Result Parts ResultCode
entries_part (Ok entries) = Ok (part.Entries (record new_schedule { entries = entries }))
entries_part (Err fault) = Err (fault_code fault)

-- the decoded emergency profile group ids of a limiter, or the result code of the refusal
abbrev pub groups_part : Result (List ℕ) WriteFault → Result Parts ResultCode
groups_part (Ok ids) = Ok (part.Groups (limiter_with_groups ids))
groups_part (Err fault) = Err (fault_code fault)

-- the decoded list of a write, or the refusal
abbrev pub list_read : WrittenList → Data → Result Parts ResultCode
list_read written.Scripts value = scripts_part (table_of value)
list_read (written.Entries which) value = entries_part (entries_of value)
list_read (written.Groups which) value = groups_part (groups_of value)

-- the world with a list replaced by the decoded one
abbrev pub with_list : WrittenList → Parts → World → World
with_list written.Scripts (part.Scripts scripts) w = record w { scripts = scripts }
with_list (written.Entries which) (part.Entries schedule) w =
    record w {
      schedules = with_schedule which
          (record (schedule_of which w.schedules) { entries = schedule.entries }) w.schedules;
    }
with_list (written.Groups which) (part.Groups limiter) w =
    with_limiter_state which (with_settings
    (record (limiter_state_of which w).settings { groups = limiter.settings.groups })
    (limiter_state_of which w)) w
with_list _ _ w = w

-- the decoded list, or none if it was refused
abbrev pub or_plain : Result Parts ResultCode → Parts
or_plain (Ok parts) = parts
or_plain (Err refusal) = part.Plain

-- the list that a write of an attribute stores, if any
abbrev pub parts_read : Option WrittenList → Data → Parts
parts_read None value = part.Plain
parts_read (Some list) value = or_plain (list_read list value)

-- the list that a write stores, if the object was reached and its attribute is a list
abbrev pub parts_at : Result Instance ResultCode → ℕ → Data → Parts
parts_at (Err refusal) number value = part.Plain
parts_at (Ok instance) number value = parts_read (list_numbered instance number) value

-- the list that a client's SET stores, if any
unfoldable pub set_parts : Level → AttrRef → Bool → Data → Parts
set_parts level attr selected value =
    parts_at (target_of attr.name attr.class (rights_of level attr).write selected) attr.number
    value

-- the list that an event stores; only a SET can store one
abbrev pub parts_of : Event → Parts
parts_of (Set level attr selected value) = set_parts level attr selected value
parts_of _ = part.Plain
