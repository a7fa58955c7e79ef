-- The days of the Gregorian calendar, counted from 1 January of the year 0, and the days of the
-- week.
use Rattle.std.specs.Prelude.{◌≡◌, ◌==◌, ℕ, zero, suc, ◌+◌, ◌-◌, ◌%◌, Bool, not, ◌&&◌, ◌||◌, nat_le, nat_lt, IsTrue, if◌then◌else◌}
use Rattle.cosem_datetime.specs.declared.calendar.CivilDate.{CivilDate}

-- whether a year is a leap year: every fourth year is one, but of the years that begin a century
-- only every fourth
abbrev pub is_leap_year : ℕ → Bool
is_leap_year y = (y % 4 == 0) && (not (y % 100 == 0) || (y % 400 == 0))

-- the number of days of a year
abbrev pub year_length : ℕ → ℕ
year_length y = if is_leap_year y then 366 else 365

-- April, June, September and November have thirty days
abbrev pub month_length : ℕ → ℕ → ℕ
month_length y m =
    if m == 2 then (if is_leap_year y then 29 else 28)
    else (if (m == 4) || (m == 6) || (m == 9) || (m == 11) then 30 else 31)

-- the number of days of the years before this one
unfoldable pub days_of_years : ℕ → ℕ
days_of_years zero = 0
days_of_years (suc y) = days_of_years y + year_length y

-- the number of days of the first n months of the year
unfoldable pub days_of_months : ℕ → ℕ → ℕ
days_of_months y zero = 0
days_of_months y (suc n) = days_of_months y n + month_length y (suc n)

-- whether the calendar has this date
abbrev pub is_date : CivilDate → Bool
is_date c =
    nat_le 1 c.month && (nat_le c.month 12 &&
    (nat_le 1 c.day && nat_le c.day (month_length c.year c.month)))

-- the number of days of the earlier years, the earlier months, and the earlier days of the month
unfoldable pub day_count : CivilDate → ℕ
day_count c = days_of_years c.year + days_of_months c.year (c.month - 1) + (c.day - 1)

-- whether a date exists in the calendar and is day n
pub record IsDay (n : ℕ) (c : CivilDate) : Type 0 where
  pub date : IsTrue (is_date c)
  pub count : day_count c ≡ n

-- the first day of the meter's time, 1 January 2000
unfoldable pub first_day_of_2000 : ℕ
first_day_of_2000 = day_count (record { year = 2000; month = 1; day = 1 })

-- the date of the next day
abbrev pub next_date : CivilDate → CivilDate
next_date c =
    if nat_lt c.day (month_length c.year c.month)
    then record { year = c.year; month = c.month; day = c.day + 1 }
    else (if nat_lt c.month 12 then record { year = c.year; month = c.month + 1; day = 1 }
    else record { year = c.year + 1; month = 1; day = 1 })

-- the date of day n
unfoldable pub date_of_day : ℕ → CivilDate
date_of_day zero = record { year = 0; month = 1; day = 1 }
date_of_day (suc n) = next_date (date_of_day n)

-- the weekday of day n, from 1 for Monday to 7 for Sunday (IEC 62056-6-2, date and time formats): 1
-- January 2000, day 7 * 104,355, is a Saturday
abbrev pub weekday : ℕ → ℕ
weekday n = (n + 5) % 7 + 1
