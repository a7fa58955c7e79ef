-- Bytes as words: two hexadecimal digits for each byte, in capitals.
use Rattle.std.specs.Prelude.{ℕ, Bool, ◌&&◌, ◌||◌, ◌==◌, nat_lt, if◌then◌else◌, List, length, Option, None, Some}
use Rattle.std.specs.Int.{is_in_range}
use Rattle.std.specs.List.{list_all}
use Rattle.std.specs.Result.{result_ok}
use Rattle.hex.specs.Hex.{decode_of}

-- whether a byte is one of the digits `0` to `9` and `A` to `F`
abbrev pub is_capital_digit : ℕ → Bool
is_capital_digit c = is_in_range 48 57 c || is_in_range 65 70 c

-- whether a text is one or more of the digits `0` to `9` and `A` to `F`
abbrev pub is_hexadecimal : List ℕ → Bool
is_hexadecimal word = nat_lt 0 (length word) && list_all is_capital_digit word

-- the bytes that the digits of a word write, two digits for each, the high four bits first; none
-- for the empty word, which no line has
unfoldable pub bytes_of : List ℕ → Option (List ℕ)
bytes_of word = if is_hexadecimal word then result_ok (decode_of word) else None

-- bytes, if there are `n`
abbrev pub only_sized : ℕ → Option (List ℕ) → Option (List ℕ)
only_sized n None = None
only_sized n (Some bytes) = if length bytes == n then Some bytes else None

-- the `n` bytes that the digits of a word write; none if it writes another number of bytes, or none
abbrev pub bytes_sized : ℕ → List ℕ → Option (List ℕ)
bytes_sized n word = only_sized n (bytes_of word)
