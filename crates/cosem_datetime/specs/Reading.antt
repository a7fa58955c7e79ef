-- Reading bytes (IEC 62056-6-2, date and time formats) field by field, from left to right, up to
-- the first fault.
use Rattle.std.specs.Prelude.{◌==◌, ℕ, List, length, slice_index, slice_range, Option, Some, None, Result, Ok, Err, ℤ, pos, negsuc, ◌&&◌, ◌||◌, nat_le, nat_lt, Bool, if◌then◌else◌}
use Rattle.std.specs.Int.{w16, from_be_bytes, cast_signed}
use Rattle.cosem_datetime.specs.declared.fault.PatternFault.{PatternFault}
use Rattle.cosem_datetime.specs.declared.fault.PatternFault.TheVariants.{Length, Range, SeasonMonth}
use Rattle.cosem_datetime.specs.declared.date.DayOfMonth.{DayOfMonth}
use Rattle.cosem_datetime.specs.declared.date.DayOfMonth.TheVariants.{Any, Number, SecondLast, Last}
use Rattle.cosem_datetime.specs.Fields.{DateFields, TimeFields, DateTimeFields}

infixl 10 ◌>>=◌
-- the next step on the value of the one before, or the fault of the one before
abbrev pub ◌>>=◌ : {A B : Type 0} → Result A PatternFault → (A → Result B PatternFault)
    → Result B PatternFault
(Ok x) >>= f = f x
(Err e) >>= f = Err e

-- a field of one byte: not specified, or a number from low to high
abbrev pub field_of : ℕ → ℕ → ℕ → Result (Option ℕ) PatternFault
field_of low high b =
    if b == 0xFF then Ok None
    else (if nat_le low b && nat_le b high then Ok (Some b) else Err Range)

-- whether a month is the begin or the end of daylight saving
abbrev pub is_season : ℕ → Bool
is_season b = (b == 0xFD) || (b == 0xFE)

-- the month of a byte: FF hex is not specified, and the begin and the end of daylight saving are
-- faults
abbrev pub month_of : ℕ → Result (Option ℕ) PatternFault
month_of b = if is_season b then Err SeasonMonth else field_of 1 12 b

-- the day of the month of a byte: FF hex is not specified, FE hex the last day, FD hex the second
-- last
abbrev pub day_of : ℕ → Result DayOfMonth PatternFault
day_of b =
    if b == 0xFF then Ok Any
    else (if b == 0xFE then Ok Last
    else (if b == 0xFD then Ok SecondLast
    else (if nat_le 1 b && nat_le b 31 then Ok (Number b) else Err Range)))

-- the year of two bytes: FFFF hex is not specified
abbrev pub year_of : ℕ → Option ℕ
year_of y = if y == 0xFFFF then None else Some y

-- whether a number of minutes is from -720 to 840
abbrev pub is_deviation : ℤ → Bool
is_deviation (pos n) = nat_le n 840
is_deviation (negsuc n) = nat_lt n 720

-- a deviation of two bytes: 0x8000 is not specified
abbrev pub deviation_of : ℕ → Result (Option ℤ) PatternFault
deviation_of n =
    if n == 0x8000 then Ok None
    else (if is_deviation (cast_signed w16 n) then Ok (Some (cast_signed w16 n)) else Err Range)

-- a date of five bytes
unfoldable pub date_of : List ℕ → Result DateFields PatternFault
date_of bytes =
    if length bytes == 5 then (do
      month ← month_of (slice_index bytes 2)
      day ← day_of (slice_index bytes 3)
      weekday ← field_of 1 7 (slice_index bytes 4)
      Ok (record {
        year = year_of (from_be_bytes w16 (slice_range bytes 0 2));
        month = month;
        day = day;
        weekday = weekday;
      }))
    else Err Length

-- a time of four bytes
unfoldable pub time_of : List ℕ → Result TimeFields PatternFault
time_of bytes =
    if length bytes == 4 then (do
      hour ← field_of 0 23 (slice_index bytes 0)
      minute ← field_of 0 59 (slice_index bytes 1)
      second ← field_of 0 59 (slice_index bytes 2)
      hundredths ← field_of 0 0 (slice_index bytes 3)
      Ok (record { hour = hour; minute = minute; second = second; hundredths = hundredths }))
    else Err Length

-- a date-time of twelve bytes
unfoldable pub date_time_of : List ℕ → Result DateTimeFields PatternFault
date_time_of bytes =
    if length bytes == 12 then (do
      date ← date_of (slice_range bytes 0 5)
      time ← time_of (slice_range bytes 5 9)
      deviation ← deviation_of (from_be_bytes w16 (slice_range bytes 9 11))
      Ok (record {
        date = date;
        time = time;
        deviation = deviation;
        status = slice_index bytes 11;
      }))
    else Err Length
