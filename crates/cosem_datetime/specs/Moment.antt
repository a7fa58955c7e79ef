-- The second that a date-time names (IEC 62056-6-2, date and time formats).
use Rattle.std.specs.Prelude.{ℕ, ◌+◌, ◌*◌, ◌^◌, Bool, ◌&&◌, nat_lt, Option, Some, None, unwrap_or, ℤ, pos, negsuc, ◌+ℤ◌, ◌-ℤ◌, ◌*ℤ◌, if◌then◌else◌}
use Rattle.cosem_datetime.specs.declared.calendar.CivilDate.{CivilDate}
use Rattle.cosem_datetime.specs.declared.date.DayOfMonth.{DayOfMonth}
use Rattle.cosem_datetime.specs.declared.date.DayOfMonth.TheVariants.{Number}
use Rattle.cosem_datetime.specs.Fields.{DateFields, TimeFields, DateTimeFields}
use Rattle.cosem_datetime.specs.Calendar.{is_date, day_count, first_day_of_2000, weekday}
use Rattle.cosem_datetime.specs.Matching.{holds}

infixl 10 ◌>>=◌
-- the next field, if the one before it is specified
abbrev pub ◌>>=◌ : {A B : Type 0} → Option A → (A → Option B) → Option B
(Some x) >>= f = f x
None >>= f = None

-- the number of a day of the month, if it is a number
abbrev pub day_number : DayOfMonth → Option ℕ
day_number (Number d) = Some d
day_number _ = None

-- the date, if year, month and day of the month are numbers
abbrev pub plain_date : DateFields → Option CivilDate
plain_date p = do
  year ← p.year
  month ← p.month
  day ← day_number p.day
  Some (record { year = year; month = month; day = day })

-- the second of the day, if hour, minute and second are numbers
abbrev pub second_of_day : TimeFields → Option ℕ
second_of_day t = do
  hour ← t.hour
  minute ← t.minute
  second ← t.second
  Some (3600 * hour + 60 * minute + second)

-- whether the calendar has the date, and the weekday, if specified, is its own
abbrev pub is_right_date : DateFields → CivilDate → Bool
is_right_date p c = is_date c && holds p.weekday (weekday (day_count c))

-- the seconds, if they fit 32 bits
abbrev pub in_u32 : ℤ → Option ℕ
in_u32 (pos s) = if nat_lt s (2 ^ 32) then Some s else None
in_u32 (negsuc s) = None

-- the seconds from 1 January 2000 to a second of a date, negative before; adding the deviation, in
-- minutes, gives UTC
abbrev pub seconds_since : CivilDate → ℕ → Option ℤ → ℤ
seconds_since c second deviation =
    (pos (86400 * day_count c + second) -ℤ pos (86400 * first_day_of_2000)) +ℤ
    (pos 60 *ℤ unwrap_or deviation (pos 0))

-- the seconds, if all six fields are numbers, the date is right, and the seconds fit 32 bits
unfoldable pub moment_of : DateTimeFields → Option ℕ
moment_of field = do
  c ← plain_date field.date
  second ← second_of_day field.time
  if is_right_date field.date c then in_u32 (seconds_since c second field.deviation) else None
