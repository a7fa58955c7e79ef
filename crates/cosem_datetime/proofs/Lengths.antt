-- The lengths of a date and a date-time (IEC 62056-6-2, date and time formats).
use Rattle.std.proofs.Common.{◌≡◌, ℕ, length, Option, Some, None, length-append, refl, arith}
use Rattle.std.specs.Prelude.{ℤ}
use Rattle.cosem_datetime.specs.Fields.{DateFields, DateTimeFields, date_bytes, date_time_bytes, year_bytes, deviation_bytes}

two_of_year : (year : Option ℕ) → length (year_bytes year) ≡ 2
two_of_year None = refl
two_of_year (Some y) = refl

two_of_deviation : (deviation : Option ℤ) → length (deviation_bytes deviation) ≡ 2
two_of_deviation None = refl
two_of_deviation (Some d) = refl

-- a date has five bytes
pub five_bytes : (p : DateFields) → length (date_bytes p) ≡ 5
five_bytes p = simp length-append (omega (arith, two_of_year p.year))

-- a date-time has twelve bytes
pub twelve_bytes : (p : DateTimeFields) → length (date_time_bytes p) ≡ 12
twelve_bytes p = simp length-append (omega (
  arith,
  two_of_year p.date.year,
  two_of_deviation p.deviation,
))
