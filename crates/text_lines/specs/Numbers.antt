-- Numbers as words: decimal digits without leading zeros. The byte 48 is the digit 0.
use Rattle.std.specs.Prelude.{ℕ, Bool, not, ◌&&◌, ◌||◌, ◌==◌, nat_lt, nat_le, if◌then◌else◌, List, length, slice_index, Option, Some, None}
use Rattle.std.specs.Char.{is_ascii_digit}
use Rattle.std.specs.List.{list_all}
use Rattle.std.specs.Str.Parse.{digits_value}

-- whether a text is one decimal digit, or several of which the first is not 0
abbrev pub is_decimal : List ℕ → Bool
is_decimal word = nat_lt 0 (length word) && list_all is_ascii_digit word &&
    (length word == 1 || not (slice_index word 0 == 48))

-- the number that a word writes, if it is at most `limit`
unfoldable pub number_of : ℕ → List ℕ → Option ℕ
number_of limit word = if is_decimal word && nat_le (digits_value 10 word) limit
    then Some (digits_value 10 word) else None

-- whether a word has one byte, or several of which the first is not 0
abbrev pub begins_number : List ℕ → Bool
begins_number word = nat_lt 0 (length word) && (length word == 1 || not (slice_index word 0 == 48))

-- the number that digits alone write, if it is at most `limit`; no digits write 0
unfoldable pub value_of : ℕ → List ℕ → Option ℕ
value_of limit word = if list_all is_ascii_digit word && nat_le (digits_value 10 word) limit
    then Some (digits_value 10 word) else None
