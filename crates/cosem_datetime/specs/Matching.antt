-- Which seconds of the meter's time a time and a date match (IEC 62056-6-2, date and time formats).
-- What a weekday means together with a day is a rule of this meter.
use Rattle.std.specs.Prelude.{◌==◌, ℕ, zero, suc, ◌+◌, ◌-◌, ◌/◌, ◌%◌, Bool, true, false, ◌&&◌, ◌||◌, nat_lt, Option, Some, None, is_some, if◌then◌else◌}
use Rattle.cosem_datetime.specs.declared.calendar.CivilDate.{CivilDate}
use Rattle.cosem_datetime.specs.declared.date.DayOfMonth.{DayOfMonth}
use Rattle.cosem_datetime.specs.declared.date.DayOfMonth.TheVariants.{Any, Number, SecondLast, Last}
use Rattle.cosem_datetime.specs.declared.entry.EntryPattern.{EntryPattern}
use Rattle.cosem_datetime.specs.Fields.{DateFields, TimeFields}
use Rattle.cosem_datetime.specs.Calendar.{month_length, weekday, first_day_of_2000, date_of_day}

-- whether the test holds of some number below n
unfoldable pub some_below : (ℕ → Bool) → ℕ → Bool
some_below test zero = false
some_below test (suc n) = some_below test n || test n

-- whether a field is the number, or not specified
abbrev pub holds : Option ℕ → ℕ → Bool
holds None n = true
holds (Some field) n = field == n

-- whether a date has this day of the month: any, a number, the second last or the last
abbrev pub day_holds : DayOfMonth → CivilDate → Bool
day_holds Any c = true
day_holds (Number d) c = d == c.day
day_holds SecondLast c = c.day + 1 == month_length c.year c.month
day_holds Last c = c.day == month_length c.year c.month

-- whether the year, the month and the day of the month are those of the date
abbrev pub date_holds : DateFields → CivilDate → Bool
date_holds p c = holds p.year c.year && (holds p.month c.month && day_holds p.day c)

-- whether the date is in the last seven days of its month, and its year and month hold
abbrev pub last_week_holds : DateFields → CivilDate → Bool
last_week_holds p c =
    holds p.year c.year &&
    (holds p.month c.month && nat_lt (month_length c.year c.month) (c.day + 7))

-- whether one of the seven days that end with day n has the date
abbrev pub past_week_holds : DateFields → ℕ → Bool
past_week_holds p n = some_below (λ back. date_holds p (date_of_day (n - back))) 7

-- whether day n of the calendar matches, apart from its weekday. With a weekday, the last day of
-- the month means the last such weekday of the month. A day number means the first such weekday
-- from that day on, if year or month is not specified.
abbrev pub month_day_holds : DayOfMonth → Option ℕ → DateFields → ℕ → Bool
month_day_holds Last (Some w) p n = last_week_holds p (date_of_day n)
month_day_holds (Number d) (Some w) p n =
    if is_some p.year && is_some p.month then date_holds p (date_of_day n) else past_week_holds p n
month_day_holds _ _ p n = date_holds p (date_of_day n)

-- whether the date matches day n of the calendar
unfoldable pub date_matches : DateFields → ℕ → Bool
date_matches p n = holds p.weekday (weekday n) && month_day_holds p.day p.weekday p n

-- whether the time matches a second of the day; hundredths of a second do not count
unfoldable pub time_matches : TimeFields → ℕ → Bool
time_matches t s = holds t.hour (s / 3600) &&
    (holds t.minute (s / 60 % 60) && holds t.second (s % 60))

-- whether the entry matches a second of the meter's time (IEC 62056-6-2, class 22, execution_time)
unfoldable pub matches : EntryPattern → ℕ → Bool
matches entry s =
    date_matches entry.date (first_day_of_2000 + s / 86400) && time_matches entry.time (s % 86400)

-- whether some second of (after, upto] matches
unfoldable pub matches_in : EntryPattern → ℕ → ℕ → Bool
matches_in entry after upto = some_below (λ k. matches entry (after + 1 + k)) (upto - after)

-- whether year, month and day of the month are plain numbers, as types 2 and 4 require (IEC
-- 62056-6-2, class 22, type); that the weekday does not count is a rule of this meter
abbrev pub is_plain : DateFields → Bool
is_plain p = is_some p.year && (is_some p.month && is_number p.day)
  where
    is_number : DayOfMonth → Bool
    is_number (Number d) = true
    is_number _ = false
