-- The text of a date-time consists of bytes.
use Rattle.std.proofs.Common.{ℕ, ◌<◌, [], ◌∷◌, ◌++◌, length, Option, Some, None, ℤ, arith, length-append}
use Rattle.std.specs.Int.{w16, cast_unsigned}
use Rattle.hex.specs.Hex.{IsBytes}
use Rattle.cosem_datetime.specs.Fields.{DateFields, TimeFields, DateTimeFields, IsWithin, IsDayWithin, IsDateFields, IsTimeFields, IsDateTimeFields, field_byte, day_byte, date_bytes, time_bytes, date_time_bytes, year_bytes, deviation_bytes}
use Rattle.cosem_datetime.specs.declared.date.DayOfMonth.{DayOfMonth}
use Rattle.cosem_datetime.specs.declared.date.DayOfMonth.TheVariants.{Any, Number, SecondLast, Last}
use Rattle.trace_words.proofs.TextBytes.{no_bytes, one_more_byte, bytes_joined, number_is_bytes}

field_is_byte : (low high : ℕ) (field : Option ℕ) → high < 256 → IsWithin low high field
    → field_byte field < 256
field_is_byte low high None less within = omega arith
field_is_byte low high (Some n) less within = omega (arith, within)

day_is_byte : (day : DayOfMonth) → IsDayWithin day → day_byte day < 256
day_is_byte Any within = omega arith
day_is_byte Last within = omega arith
day_is_byte SecondLast within = omega arith
day_is_byte (Number d) within = omega (arith, within)

year_is_bytes : (year : Option ℕ) → IsBytes (year_bytes year)
year_is_bytes None = one_more_byte 0xFF (0xFF ∷ []) (omega arith)
    (one_more_byte 0xFF [] (omega arith) no_bytes)
year_is_bytes (Some y) = number_is_bytes 2 y

deviation_is_bytes : (deviation : Option ℤ) → IsBytes (deviation_bytes deviation)
deviation_is_bytes None = one_more_byte 0x80 (0 ∷ []) (omega arith)
    (one_more_byte 0 [] (omega arith) no_bytes)
deviation_is_bytes (Some d) = number_is_bytes 2 (cast_unsigned w16 d)

pub date_is_bytes : (p : DateFields) → IsDateFields p → IsBytes (date_bytes p)
date_is_bytes p fits =
    bytes_joined (year_bytes p.year) (field_byte p.month ∷ day_byte p.day ∷ field_byte p.weekday
    ∷ []) (year_is_bytes p.year)
    (one_more_byte (field_byte p.month) (day_byte p.day ∷ field_byte p.weekday
    ∷ []) (field_is_byte 1 12 p.month (omega arith) fits.month)
    (one_more_byte (day_byte p.day) (field_byte p.weekday ∷ []) (day_is_byte p.day fits.day)
    (one_more_byte (field_byte p.weekday) [] (field_is_byte 1 7 p.weekday
    (omega arith) fits.weekday) no_bytes)))

pub time_is_bytes : (p : TimeFields) → IsTimeFields p → IsBytes (time_bytes p)
time_is_bytes p fits =
    one_more_byte (field_byte p.hour) (field_byte p.minute ∷ field_byte p.second
    ∷ field_byte p.hundredths ∷ []) (field_is_byte 0 23 p.hour (omega arith) fits.hour)
    (one_more_byte (field_byte p.minute) (field_byte p.second ∷ field_byte p.hundredths
    ∷ []) (field_is_byte 0 59 p.minute (omega arith) fits.minute)
    (one_more_byte (field_byte p.second) (field_byte p.hundredths
    ∷ []) (field_is_byte 0 59 p.second (omega arith) fits.second)
    (one_more_byte (field_byte p.hundredths) []
    (field_is_byte 0 0 p.hundredths (omega arith) fits.hundredths) no_bytes)))

pub date_time_is_bytes : (p : DateTimeFields) → IsDateTimeFields p → IsBytes (date_time_bytes p)
date_time_is_bytes p fits =
    let deviation = deviation_is_bytes p.deviation in
    bytes_joined (date_bytes p.date ++ time_bytes p.time ++ deviation_bytes p.deviation) (p.status
    ∷ [])
    (bytes_joined (date_bytes p.date ++ time_bytes p.time) (deviation_bytes p.deviation)
    (bytes_joined (date_bytes p.date) (time_bytes p.time) (date_is_bytes p.date fits.date)
    (time_is_bytes p.time fits.time)) deviation)
    (one_more_byte p.status [] fits.status no_bytes)

pub date_time_has_bytes : (p : DateTimeFields) → 0 < length (date_time_bytes p)
date_time_has_bytes p = simp length-append (omega arith)
