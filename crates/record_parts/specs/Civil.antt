-- A second as a civil date and time, YYYY-MM-DDThh:mm:ss (ISO 8601).
--     two_digits      the last two digits of a number
--     civil_text      a second, counted from the beginning of a day
use Rattle.std.specs.Prelude.{ℕ, ◌+◌, ◌/◌, ◌%◌, codes, List, [], ◌∷◌, ◌++◌}
use Rattle.cosem_datetime.specs.Calendar.{date_of_day}
use Rattle.cosem_datetime.specs.declared.calendar.CivilDate.{CivilDate}

-- the tens and the ones of a number
abbrev pub two_digits : ℕ → List ℕ
two_digits n = (48 + n / 10 % 10) ∷ (48 + n % 10) ∷ []

-- a date, YYYY-MM-DD
abbrev pub date_text : CivilDate → List ℕ
date_text date =
    two_digits (date.year / 100) ++ two_digits date.year ++ codes "-" ++ two_digits date.month
    ++ codes "-" ++ two_digits date.day

-- a second of the day, hh:mm:ss
abbrev pub time_text : ℕ → List ℕ
time_text second =
    two_digits (second / 3600) ++ codes ":" ++ two_digits (second / 60 % 60) ++ codes ":"
    ++ two_digits (second % 60)

-- the date and time of a second, counted from the beginning of a day, which is a number of days
-- since 1 January of the year 0
abbrev pub civil_text : ℕ → ℕ → List ℕ
civil_text first_day seconds =
    date_text (date_of_day (first_day + seconds / 86400)) ++ codes "T"
    ++ time_text (seconds % 86400)
