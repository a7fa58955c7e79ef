-- The lemmas that the laws state, by subject.
use Rattle.std.proofs.Common.{◌≡◌, ℕ, ◌*◌, ◌<◌, ◌≤◌, ◌^◌, List, [], length, Some, true, decimal}
use Rattle.hex.specs.Hex.{encode_upper, IsBytes}
use Rattle.text_lines.specs.Hexadecimal.{bytes_of}
use Rattle.text_lines.proofs.HexadecimalLemmas.{bytes_again, bytes_only, hex_is_word}
use Rattle.text_lines.proofs.LinesLemmas.{rows_again, unended_again, rows_text-rows_of, rows_text-append, rows_text-one, rows_of-taken, rows_of-none, rows_of-rows_text}
use Rattle.std.specs.List.{list_all}
use Rattle.text_lines.specs.Lines.{is_row, rows_of, rows_text, unended_of}
use Rattle.text_lines.specs.Numbers.{number_of}
use Rattle.text_lines.proofs.NumbersLemmas.{number_again, number_only}
use Rattle.text_lines.proofs.WordsLemmas.{decimal_is_word, words_again, line_of-words_of, line_of-push}

pub number_is : (word : List ℕ) (n limit : ℕ) → limit < 2 ^ 64 → number_of limit word ≡ Some n
    → word ≡ decimal n
number_is word n limit small e = (number_only limit n word small e).0

pub number_within : (word : List ℕ) (n limit : ℕ) → limit < 2 ^ 64 → number_of limit word ≡ Some n
    → n ≤ limit
number_within word n limit small e = (number_only limit n word small e).1

pub hex_is : (word bytes : List ℕ) → bytes_of word ≡ Some bytes → word ≡ encode_upper bytes
hex_is word bytes e = (bytes_only word bytes e).0

pub hex_holds_bytes : (word bytes : List ℕ) → bytes_of word ≡ Some bytes → IsBytes bytes
hex_holds_bytes word bytes e = (bytes_only word bytes e).1

pub length-hex : (word bytes : List ℕ) → bytes_of word ≡ Some bytes → length word ≡ 2 * length bytes
length-hex word bytes e = (bytes_only word bytes e).2

pub hex_some : (word bytes : List ℕ) → bytes_of word ≡ Some bytes → 0 < length bytes
hex_some word bytes e = (bytes_only word bytes e).3

pub rows_whole : (rows : List (List (List ℕ))) → list_all is_row rows ≡ true
    → rows_of (rows_text rows) ≡ rows
rows_whole rows all = (rows_of-rows_text rows all).0

pub rows_ended : (rows : List (List (List ℕ))) → list_all is_row rows ≡ true
    → unended_of (rows_text rows) ≡ []
rows_ended rows all = (rows_of-rows_text rows all).1

pub ruleset numbers = (decimal_is_word, number_again, number_is, number_within)

pub ruleset words = (words_again, line_of-words_of, line_of-push)

pub ruleset hexes = (hex_is_word, bytes_again, hex_is, hex_holds_bytes, length-hex, hex_some)

pub ruleset rows = (
  rows_again,
  unended_again,
  rows_text-rows_of,
  rows_text-append,
  rows_text-one,
  rows_of-taken,
  rows_of-none,
  rows_whole,
  rows_ended,
)
