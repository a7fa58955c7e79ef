-- Texts are ASCII: literals, and civil dates and times.
use Rattle.std.proofs.Common.{◌≡◌, ℕ, zero, suc, ◌+◌, ◌/◌, ◌%◌, ◌<◌, true}
use Rattle.std.proofs.Common.{nat_lt, List, [], ◌∷◌, ◌++◌, arith}
use Rattle.std.proofs.lemmas.Bool.{and_parts}
use Rattle.std.proofs.lemmas.Bool.Decides.{nat_tests}
use Rattle.std.proofs.lemmas.Str.{IsAscii-append, IsUtf8-from_ascii}
use Rattle.std.proofs.lemmas.Str.Ascii.{IsAscii-nil}
use Rattle.std.specs.List.{list_all}
use Rattle.std.specs.Str.{IsAscii, IsUtf8}
use Rattle.cosem_datetime.specs.Calendar.{date_of_day}
use Rattle.cosem_datetime.specs.declared.calendar.CivilDate.{CivilDate}
use Rattle.record_parts.specs.Civil.{civil_text, date_text, time_text, two_digits}

pub ascii_is_utf8 : (bytes : List ℕ) → IsAscii bytes → IsUtf8 bytes
ascii_is_utf8 bytes ascii = IsUtf8-from_ascii bytes ascii

pub one_more : (byte : ℕ) (bytes : List ℕ) → byte < 128 → IsAscii bytes → IsAscii (byte ∷ bytes)
one_more byte bytes low others zero = low
one_more byte bytes low others (suc i) = others i

low_byte : (byte : ℕ) → nat_lt byte 128 ≡ true → byte < 128
low_byte byte e = grind (arith, nat_tests)

pub literal : (word : List ℕ) → list_all (λ byte. nat_lt byte 128) word ≡ true → IsAscii word
literal [] e = IsAscii-nil
literal (byte ∷ word) e =
    let both = and_parts (nat_lt byte 128) (list_all (λ byte. nat_lt byte 128) word) e in
    one_more byte word (low_byte byte both.0) (literal word both.1)

two_are_ascii : (n : ℕ) (rest : List ℕ) → IsAscii rest → IsAscii (two_digits n ++ rest)
two_are_ascii n rest ascii =
    one_more (48 + n / 10 % 10) ((48 + n % 10) ∷ rest) (omega arith)
    (one_more (48 + n % 10) rest (omega arith) ascii)

time_is_ascii : (second : ℕ) → IsAscii (time_text second)
time_is_ascii second =
    let seconds = two_digits (second % 60) in
    let minutes = two_digits (second / 60 % 60) in
    two_are_ascii (second / 3600) (58 ∷ minutes ++ 58 ∷ seconds)
    (one_more 58 (minutes ++ 58 ∷ seconds) (omega arith)
    (two_are_ascii (second / 60 % 60) (58 ∷ seconds)
    (one_more 58 seconds (omega arith) (two_are_ascii (second % 60) [] IsAscii-nil))))

date_is_ascii : (date : CivilDate) → IsAscii (date_text date)
date_is_ascii date =
    let day = two_digits date.day in
    let month = two_digits date.month ++ 45 ∷ day in
    two_are_ascii (date.year / 100) (two_digits date.year ++ 45 ∷ month)
    (two_are_ascii date.year (45 ∷ month) (one_more 45 month (omega arith)
    (two_are_ascii date.month (45 ∷ day) (one_more 45 day (omega arith)
    (two_are_ascii date.day [] IsAscii-nil)))))

pub civil_is_ascii : (first_day seconds : ℕ) → IsAscii (civil_text first_day seconds)
civil_is_ascii first_day seconds =
    let date = date_of_day (first_day + seconds / 86400) in
    IsAscii-append (date_text date) (84 ∷ time_text (seconds % 86400)) (date_is_ascii date)
    (one_more 84 (time_text (seconds % 86400)) (omega arith) (time_is_ascii (seconds % 86400)))
