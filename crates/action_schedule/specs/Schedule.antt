-- A schedule as its callers see it (IEC 62056-6-2, class 22), and what writes do to it.
use Rattle.std.specs.Prelude.{ℕ, ◌≤◌, List, [], length, Result, Ok, Err}
use Rattle.std.specs.List.{All}
use Rattle.cosem_datetime.specs.Fields.{IsTimeFields, IsDateFields}
use Rattle.cosem_datetime.specs.declared.entry.EntryPattern.{EntryPattern}
use Rattle.cosem_names.specs.declared.write_fault.WriteFault.{WriteFault}
use Rattle.action_schedule.specs.declared.kind.ScheduleType.{ScheduleType}
use Rattle.action_schedule.specs.declared.kind.ScheduleType.TheVariants.{Type5}
use Rattle.action_schedule.specs.Reading.{max_entries}

-- the script that it runs, its type and its entries
pub record Schedule : Type 0 where
  pub selector : ℕ
  pub kind : ScheduleType
  pub entries : List EntryPattern

-- whether the fields of an entry are in their ranges
pub record IsEntry (entry : EntryPattern) : Type 0 where
  pub time : IsTimeFields entry.time
  pub date : IsDateFields entry.date

-- whether a schedule may have these entries: at most `max_entries`, with all fields in their ranges
pub record AreEntries (entries : List EntryPattern) : Type 0 where
  pub few : length entries ≤ max_entries
  pub fit : All IsEntry entries

-- a new schedule: it has no entries, so it never runs its script, the null script
abbrev pub new_schedule : Schedule
new_schedule = record { selector = 0; kind = Type5; entries = [] }

-- the answer to a write: nothing, or why it is refused
abbrev pub answer_of : {A : Type 0} → Result A WriteFault → Result (Unit {0}) WriteFault
answer_of (Ok x) = Ok tt
answer_of (Err fault) = Err fault

-- a schedule after a write of its script; a refused write changes nothing
abbrev pub with_selector : Result ℕ WriteFault → Schedule → Schedule
with_selector (Ok selector) schedule = record schedule { selector = selector }
with_selector (Err fault) schedule = schedule

-- a schedule after a write of its type; a refused write changes nothing
abbrev pub with_kind : Result ScheduleType WriteFault → Schedule → Schedule
with_kind (Ok kind) schedule = record schedule { kind = kind }
with_kind (Err fault) schedule = schedule

-- a schedule after a write of its entries; a refused write changes nothing
abbrev pub with_entries : Result (List EntryPattern) WriteFault → Schedule → Schedule
with_entries (Ok entries) schedule = record schedule { entries = entries }
with_entries (Err fault) schedule = schedule
