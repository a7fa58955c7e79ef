-- What a client writes to an attribute of a schedule (IEC 62056-6-2, class 22), or why it is
-- refused. A wrong type anywhere is reported before any wrong value: that order is a rule of this
-- meter.
use Rattle.std.specs.Prelude.{ℕ, nat_le, List, length, ok_or, Result, Ok}
use Rattle.std.specs.Result.{result_ok}
use Rattle.wire_bytes.specs.Outcome.{◌>>=◌, ◌>>◌, guard}
use Rattle.cosem_axdr.specs.declared.value.Data.{Data}
use Rattle.cosem_axdr.specs.Forms.{array_of, enumerated_of}
use Rattle.cosem_datetime.specs.Reading.{time_of, date_of}
use Rattle.cosem_datetime.specs.declared.entry.EntryPattern.{EntryPattern}
use Rattle.action_schedule.specs.Forms.{entry_parts_of}
use Rattle.action_schedule.specs.Kinds.{type_of_number}
use Rattle.cosem_names.specs.Scripts.{script_of, is_of_the_table}
use Rattle.cosem_names.specs.WriteFault.{fault_of_items, values}
use Rattle.cosem_names.specs.declared.write_fault.WriteFault.{WriteFault}
use Rattle.cosem_names.specs.declared.write_fault.WriteFault.TheVariants.{Unmatched, Value}
use Rattle.action_schedule.specs.declared.kind.ScheduleType.{ScheduleType}

-- executed_script: a selector in the script table
unfoldable pub selector_of : Data → Result ℕ WriteFault
selector_of value = do
  script ← ok_or (script_of value) Unmatched
  guard (is_of_the_table script) Value
  Ok script.selector

-- type: 1 to 5
unfoldable pub kind_of : Data → Result ScheduleType WriteFault
kind_of value = do
  number ← ok_or (enumerated_of value) Unmatched
  ok_or (type_of_number number) Value

-- an entry of execution_time; each field of its time and date is in its range
unfoldable pub entry_of : Data → Result EntryPattern WriteFault
entry_of value = do
  parts ← ok_or (entry_parts_of value) Unmatched
  time ← ok_or (result_ok (time_of parts.0)) Value
  date ← ok_or (result_ok (date_of parts.1)) Value
  Ok (record { time = time; date = date })

-- the maximum number of entries of a schedule
abbrev pub max_entries : ℕ
max_entries = 16

-- the fault of entries: there are at most sixteen
unfoldable pub judged_entries : List Data → Result (Unit {0}) WriteFault
judged_entries items = do
  fault_of_items entry_of items
  guard (nat_le (length items) max_entries) Value

-- execution_time: the entries
unfoldable pub entries_of : Data → Result (List EntryPattern) WriteFault
entries_of value = do
  items ← ok_or (array_of value) Unmatched
  judged_entries items
  Ok (values entry_of items)
