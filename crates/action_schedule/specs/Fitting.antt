-- When a schedule fits its type (IEC 62056-6-2, class 22, type and execution_time), and when it is
-- due. How far back seconds count is a rule of this meter.
use Rattle.std.specs.Prelude.{◌≡◌, ℕ, ◌-◌, ◌<◌, ◌≤◌, max, Bool, true, false, ◌&&◌, ◌==◌, List, [], ◌∷◌, length, Option, Some, None}
use Rattle.std.specs.List.{list_any, list_all}
use Rattle.cosem_datetime.specs.Fields.{TimeFields}
use Rattle.cosem_datetime.specs.Matching.{is_plain, matches, matches_in}
use Rattle.cosem_datetime.specs.declared.entry.EntryPattern.{EntryPattern}
use Rattle.action_schedule.specs.Schedule.{Schedule}
use Rattle.action_schedule.specs.declared.kind.ScheduleType.{ScheduleType}
use Rattle.action_schedule.specs.declared.kind.ScheduleType.TheVariants.{Type1, Type2, Type3, Type4, Type5}

-- whether two fields are both not specified, or both the same number
abbrev pub is_same_field : Option ℕ → Option ℕ → Bool
is_same_field None None = true
is_same_field (Some m) (Some n) = m == n
is_same_field _ _ = false

-- whether two times have the same hour, minute and second, as written
abbrev pub is_same_time : TimeFields → TimeFields → Bool
is_same_time one other =
    is_same_field one.hour other.hour &&
    (is_same_field one.minute other.minute && is_same_field one.second other.second)

-- whether all entries have the time of the first
abbrev pub have_one_time : List EntryPattern → Bool
have_one_time [] = true
have_one_time (entry ∷ entries) = list_all (λ other. is_same_time entry.time other.time) entries

-- whether year, month and day of every entry's date are plain numbers
abbrev pub have_plain_dates : List EntryPattern → Bool
have_plain_dates entries = list_all (λ entry. is_plain entry.date) entries

-- whether a schedule of this type may have these entries
abbrev pub fits_type : ScheduleType → List EntryPattern → Bool
fits_type Type1 entries = length entries == 1
fits_type Type2 entries = have_one_time entries && have_plain_dates entries
fits_type Type3 entries = have_one_time entries
fits_type Type4 entries = have_plain_dates entries
fits_type Type5 entries = true

-- whether a schedule has entries that its type allows
unfoldable pub fits : Schedule → Bool
fits schedule = fits_type schedule.kind schedule.entries

-- how far back seconds count: a day
abbrev pub seconds_looked_back : ℕ
seconds_looked_back = 86400

-- the moment after which seconds count: the previous one, or the one a day before now if that is
-- later
abbrev pub window_start : ℕ → ℕ → ℕ
window_start previous now = max previous (now - seconds_looked_back)

-- whether some second after `after`, and at most `upto`, matches one of the entries
abbrev pub has_match : List EntryPattern → ℕ → ℕ → Bool
has_match entries after upto = list_any (λ entry. matches_in entry after upto) entries

-- whether the schedule is due between the previous moment and now
unfoldable pub is_due : Schedule → ℕ → ℕ → Bool
is_due schedule previous now =
    fits schedule && has_match schedule.entries (window_start previous now) now

-- whether a schedule is due, which `is_due` decides: it fits its type, and a second of the window
-- matches one of its entries
pub record IsDue (schedule : Schedule) (previous now : ℕ) : Type 0 where
  pub fit : fits schedule ≡ true
  pub second : ℕ
  pub late : window_start previous now < second
  pub early : second ≤ now
  pub matched : list_any (λ entry. matches entry second) schedule.entries ≡ true
