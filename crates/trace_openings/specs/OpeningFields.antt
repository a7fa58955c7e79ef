-- The lines of an opening, one by one: a first word, the label, and its values.
--     label                           the label of a limiter's line
--     version_in .. entries_in        the value of a word
--     version_from .. schedule_from   the value of a line of words
use Rattle.std.specs.Prelude.{ℕ, ◌==◌, nat_eq, nat_le, codes, List, ◌++◌, length, Option, Some, None, Result, Ok, Err, if◌then◌else◌}
use Rattle.std.specs.Cmp.Lexicographic.{pointwise}
use Rattle.std.specs.Result.{result_ok}
use Rattle.wire_bytes.specs.Outcome.{◌>>=◌, ◌>>◌, guard}
use Rattle.action_schedule.specs.Reading.{entries_of}
use Rattle.action_schedule.specs.Kinds.{type_of_number}
use Rattle.action_schedule.specs.Schedule.{Schedule}
use Rattle.action_schedule.specs.declared.kind.ScheduleType.{ScheduleType}
use Rattle.cosem_datetime.specs.Fields.{DateTimeFields, IsDateTimeFields, date_time_bytes}
use Rattle.cosem_datetime.specs.Reading.{date_time_of}
use Rattle.cosem_datetime.specs.declared.entry.EntryPattern.{EntryPattern}
use Rattle.cosem_names.specs.declared.objects.Which.{Which}
use Rattle.cosem_names.specs.declared.objects.Which.TheVariants.{Import, Export}
use Rattle.disconnect_control.specs.Control.{is_mode_fit}
use Rattle.disconnect_control.specs.Transitions.{mode_of}
use Rattle.disconnect_control.specs.declared.state.ControlMode.{ControlMode}
use Rattle.disconnect_control.specs.declared.state.ControlState.{ControlState}
use Rattle.disconnect_control.specs.declared.state.ControlState.TheVariants.{Disconnected, Connected, ReadyForReconnection}
use Rattle.limiter_core.specs.Counting.{cap, no_run}
use Rattle.limiter_core.specs.State.{are_fit}
use Rattle.limiter_core.specs.declared.count.Count.{Count}
use Rattle.limiter_core.specs.declared.settings.Actions.{Actions}
use Rattle.limiter_core.specs.declared.settings.Profile.{Profile}
use Rattle.script_steps.specs.Reading.{table_of}
use Rattle.script_steps.specs.declared.step.Script.{Script}
use Rattle.trace_words.specs.Reading.{number_in, bytes_in, data_in, value_in, next_as, last_as}
use Rattle.trace_words.specs.Rows.{Word, Row, Read, or_wrong}
use Rattle.trace_words.specs.declared.fault.RowFault.{RowFault}
use Rattle.trace_words.specs.declared.fault.RowFault.TheVariants.{Wrong}
use Rattle.trace_words.specs.declared.version.Version.{Version}
use Rattle.trace_words.specs.declared.version.Version.TheVariants.{One, Two}
use Rattle.trace_words.specs.Labels.{labelled_value, words_after}
use Rattle.trace_words.specs.Parts.{Part, word, number_part, flag_part, after_first, items_to_end, labelled_part, line_read}
use Rattle.hex.specs.Hex.{encode_upper}
use Rattle.wire_bytes.specs.Format.{iso, ◌&◌}

-- ---- words

-- the label of a line of one of the limiters; those of the export limiter begin with an x
abbrev pub label : Which → Word → Word
label Import name = name
label Export name = codes "x" ++ name

-- the version of the format, 1 or 2
abbrev pub version_in : Word → Result Version RowFault
version_in word = do
  number ← number_in 2 word
  if number == 1 then Ok One else if number == 2 then Ok Two else Err Wrong

-- a device name: 1 to 16 bytes in hexadecimal
unfoldable pub device_in : Word → Result (List ℕ) RowFault
device_in word = do
  bytes ← bytes_in word
  guard (nat_le (length bytes) 16) Wrong
  Ok bytes

-- control_state (class 70, attribute 3) from its number: 0 disconnected, 1 connected, 2 ready for
-- reconnection
abbrev pub state_in : Word → Result ControlState RowFault
state_in word = do
  number ← number_in 2 word
  Ok (if number == 0 then Disconnected else if number == 1 then Connected else ReadyForReconnection)

-- a control mode that fits the control state
unfoldable pub mode_in : ControlState → Word → Result ControlMode RowFault
mode_in state word = do
  number ← number_in 6 word
  mode ← or_wrong (mode_of number)
  guard (is_mode_fit mode state) Wrong
  Ok mode

-- a moment, or `-` for none
abbrev pub moment_in : Word → Result (Option ℕ) RowFault
moment_in word = if pointwise nat_eq word (codes "-") then Ok None else do
  moment ← value_in word
  Ok (Some moment)

-- a date-time, its twelve bytes in hexadecimal
unfoldable pub start_in : Word → Result DateTimeFields RowFault
start_in word = do
  bytes ← bytes_in word
  or_wrong (result_ok (date_time_of bytes))

-- a script table, a Data in hexadecimal
unfoldable pub table_in : Word → Result (List Script) RowFault
table_in word = do
  value ← data_in word
  or_wrong (result_ok (table_of value))

-- the entries of a schedule, a Data in hexadecimal
unfoldable pub entries_in : Word → Result (List EntryPattern) RowFault
entries_in word = do
  value ← data_in word
  or_wrong (result_ok (entries_of value))

-- the type of a schedule
abbrev pub type_in : Word → Result ScheduleType RowFault
type_in word = do
  number ← number_in 5 word
  or_wrong (type_of_number number)

-- ---- parts of a limiter's lines

-- the start of an emergency profile: a date-time, its twelve bytes in hexadecimal
abbrev pub start_part : Part DateTimeFields
start_part = word start_in (λ start. encode_upper (date_time_bytes start)) IsDateTimeFields

-- an emergency profile: its id, its start and its duration in seconds
abbrev pub profile_part : Part Profile
profile_part =
    iso (λ p. record { id = p.0; start = p.1.0; duration = p.1.1 })
    (λ p. (p.id, (p.start, p.duration)))
    (number_part 65535 & start_part & number_part 4294967295)

-- up to 32 group ids
abbrev pub groups_part : Part (List ℕ)
groups_part = items_to_end 32 (number_part 65535)

-- the script selectors of the actions, over and under the threshold
abbrev pub actions_part : Part Actions
actions_part = iso (λ p. record { over = p.0; under = p.1 }) (λ a. (a.over, a.under))
    (number_part 65535 & number_part 65535)

-- one id in a list
abbrev pub id_from : Word → Row → Read ℕ
id_from = after_first (number_part 65535)

-- the length of a run, and whether it has fired
abbrev pub count_part : Part Count
count_part = iso (λ p. record { run = p.0; fired = p.1 }) (λ c. (c.run, c.fired))
    (number_part cap & flag_part)

-- ---- lines

-- `RELAYTRACE` and the version
abbrev pub version_from : Row → Result Version RowFault
version_from row = labelled_value (codes "RELAYTRACE") version_in row

-- the emergency profile of a limiter, from the words of its line
unfoldable pub profile_from : Which → Row → Result Profile RowFault
profile_from which row = line_read (labelled_part (label which (codes "profile")) profile_part) row

-- the emergency profile group ids of a limiter, from the words of its line
unfoldable pub groups_from : Which → Row → Result (List ℕ) RowFault
groups_from which row = line_read (labelled_part (label which (codes "groups")) groups_part) row

-- the script selectors of a limiter's actions, from the words of their line
unfoldable pub actions_from : Which → Row → Result Actions RowFault
actions_from which row = line_read (labelled_part (label which (codes "actions")) actions_part) row

-- the run of one side of a limiter, from the words of the line with this label
unfoldable pub count_from : Word → Row → Result Count RowFault
count_from name row = line_read (labelled_part name count_part) row

-- the run over the threshold, if the last value allows it
unfoldable pub over_from : Which → ℕ → Row → Result Count RowFault
over_from which last row = do
  over ← count_from (label which (codes "over")) row
  guard (are_fit last over no_run) Wrong
  Ok over

-- the run under the threshold, if the last value and the run over the threshold allow it
unfoldable pub under_from : Which → ℕ → Count → Row → Result Count RowFault
under_from which last over row = do
  under ← count_from (label which (codes "under")) row
  guard (are_fit last over under) Wrong
  Ok under

-- one of the four schedules: its number, selector, type and entries
unfoldable pub schedule_from : ℕ → Row → Result Schedule RowFault
schedule_from number row = do
  words ← words_after (codes "schedule") row
  found ← next_as (number_in 3) words.1
  guard (found.0 == number) Wrong
  selector ← next_as (number_in 65535) found.1
  kind ← next_as type_in selector.1
  entries ← last_as entries_in kind.1
  Ok (record { selector = selector.0; kind = kind.0; entries = entries })
