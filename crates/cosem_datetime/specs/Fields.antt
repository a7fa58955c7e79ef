-- The fields of a date, a time and a date-time, with their ranges and the bytes that spell them
-- (IEC 62056-6-2, date and time formats). That hundredths of a second are 0 or not specified is a
-- rule of this meter.
use Rattle.std.specs.Prelude.{ℕ, ◌<◌, List, [], ◌∷◌, ◌++◌, Option, Some, None, IfSome, ℤ, pos, negsuc, ◌≤ℤ◌}
use Rattle.std.specs.Int.{IsInRange, w16, to_be_bytes, cast_unsigned}
use Rattle.cosem_datetime.specs.declared.date.DayOfMonth.{DayOfMonth}
use Rattle.cosem_datetime.specs.declared.date.DayOfMonth.TheVariants.{Any, Number, SecondLast, Last}

-- the fields of a date; a field is `None` if it is not specified, and weekday 1 is Monday
pub record DateFields : Type 0 where
  pub year : Option ℕ
  pub month : Option ℕ
  pub day : DayOfMonth
  pub weekday : Option ℕ

-- the fields of a time; a field is `None` if it is not specified
pub record TimeFields : Type 0 where
  pub hour : Option ℕ
  pub minute : Option ℕ
  pub second : Option ℕ
  pub hundredths : Option ℕ

-- the fields of a date-time; the deviation from UTC is in minutes, and `None` if it is not
-- specified
pub record DateTimeFields : Type 0 where
  pub date : DateFields
  pub time : TimeFields
  pub deviation : Option ℤ
  pub status : ℕ

-- whether a field that is specified is in its range
abbrev pub IsWithin : ℕ → ℕ → Option ℕ → Type 0
IsWithin low high field = IfSome field (λ n. IsInRange low high n)

-- whether a day of the month that is a number is from 1 to 31
abbrev pub IsDayWithin : DayOfMonth → Type 0
IsDayWithin (Number d) = IsInRange 1 31 d
IsDayWithin _ = Unit {0}

-- whether a deviation from UTC that is specified is from -720 to 840 minutes
abbrev pub IsDeviationWithin : Option ℤ → Type 0
IsDeviationWithin deviation = IfSome deviation (λ d. (negsuc 719 ≤ℤ d) × (d ≤ℤ pos 840))

-- whether the fields of a date are in their ranges
pub record IsDateFields (p : DateFields) : Type 0 where
  pub year : IfSome p.year (λ y. y < 0xFFFF)
  pub month : IsWithin 1 12 p.month
  pub day : IsDayWithin p.day
  pub weekday : IsWithin 1 7 p.weekday

-- whether the fields of a time are in their ranges; hundredths of a second are 0 or not specified
pub record IsTimeFields (p : TimeFields) : Type 0 where
  pub hour : IsWithin 0 23 p.hour
  pub minute : IsWithin 0 59 p.minute
  pub second : IsWithin 0 59 p.second
  pub hundredths : IsWithin 0 0 p.hundredths

-- whether the fields of a date-time are in their ranges
pub record IsDateTimeFields (p : DateTimeFields) : Type 0 where
  pub date : IsDateFields p.date
  pub time : IsTimeFields p.time
  pub deviation : IsDeviationWithin p.deviation
  pub status : p.status < 256

-- the two bytes of a year, the higher first: FFFF hex if it is not specified
abbrev pub year_bytes : Option ℕ → List ℕ
year_bytes None = 0xFF ∷ 0xFF ∷ []
year_bytes (Some y) = to_be_bytes w16 y

-- the byte of a field: FF hex if it is not specified
abbrev pub field_byte : Option ℕ → ℕ
field_byte None = 0xFF
field_byte (Some n) = n

-- the byte of a day of the month: FF hex if it is not specified, FE hex for the last day and FD hex
-- for the second last
abbrev pub day_byte : DayOfMonth → ℕ
day_byte Any = 0xFF
day_byte Last = 0xFE
day_byte SecondLast = 0xFD
day_byte (Number d) = d

-- the two bytes of a deviation in two's complement, the higher first: 8000 hex if it is not
-- specified
abbrev pub deviation_bytes : Option ℤ → List ℕ
deviation_bytes None = 0x80 ∷ 0 ∷ []
deviation_bytes (Some d) = to_be_bytes w16 (cast_unsigned w16 d)

-- year, month, day of the month, day of the week
abbrev pub date_bytes : DateFields → List ℕ
date_bytes p =
    year_bytes p.year ++ field_byte p.month ∷ day_byte p.day ∷ field_byte p.weekday ∷ []

-- hour, minute, second, hundredths of a second
abbrev pub time_bytes : TimeFields → List ℕ
time_bytes p =
    field_byte p.hour ∷ field_byte p.minute ∷ field_byte p.second ∷ field_byte p.hundredths ∷ []

-- date, time, deviation, clock status
abbrev pub date_time_bytes : DateTimeFields → List ℕ
date_time_bytes p =
    date_bytes p.date ++ time_bytes p.time ++ deviation_bytes p.deviation ++ p.status ∷ []

-- no field is specified
abbrev pub unspecified_date_time : DateTimeFields
unspecified_date_time =
    record {
      date = record { year = None; month = None; day = Any; weekday = None };
      time = record { hour = None; minute = None; second = None; hundredths = None };
      deviation = None;
      status = 0xFF;
    }
