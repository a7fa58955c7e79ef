-- The whole lines of a text before its first byte 0. What follows them is left out.
--     has_zero      whether bytes have a byte 0
--     has_end       whether bytes have a byte 0A
--     before_zero   the lines before the first one that has a byte 0
--     whole_lines   the place at these lines, without the rest of the text
--     whole_text    the text of these lines
--     IsTail        bytes that have no whole line before their first byte 0
--     FirstWhole    the first line of a text is whole, and has no byte 0
--     IsWhole       the length of these lines, and their number
use Rattle.std.specs.Prelude.{◌≡◌, ◌≤◌, ◌==◌, ℕ, Bool, false, List, [], ◌∷◌, length, take}
use Rattle.std.specs.Prelude.{if◌then◌else◌}
use Rattle.std.specs.List.{list_any}
use Rattle.text_lines.specs.Lines.{lines_of, rows_of, rows_text, unended_of}
use Rattle.text_lines.specs.Words.{line_of}
use Rattle.trace_words.specs.Places.{Place}
use Rattle.trace_words.specs.Rows.{Row}

-- whether bytes have a byte 0
abbrev pub has_zero : List ℕ → Bool
has_zero bytes = list_any (λ byte. byte == 0) bytes

-- whether bytes have a byte 0A
abbrev pub has_end : List ℕ → Bool
has_end bytes = list_any (λ byte. byte == 10) bytes

-- the lines before the first one that has a byte 0
abbrev pub before_zero : List Row → List Row
before_zero [] = []
before_zero (row ∷ rows) = if has_zero (line_of row) then [] else row ∷ before_zero rows

-- the place at the lines before the first one that has a byte 0, without the rest of the text
abbrev pub whole_lines : Place → Place
whole_lines place = record {
  number = place.number;
  rows = before_zero place.rows;
  unended = [];
}

-- the text of the lines before the first one that has a byte 0
abbrev pub whole_text : List ℕ → List ℕ
whole_text text = rows_text (before_zero (rows_of text))

-- whether bytes have no whole line before their first byte 0
abbrev pub IsTail : List ℕ → Type 0
IsTail bytes = before_zero (rows_of bytes) ≡ []

-- whether the first line of a text is whole, and has no byte 0
pub record FirstWhole (text rest : List ℕ) : Type 0 where
  pub line : List ℕ
  pub lines : lines_of text ≡ line ∷ lines_of rest
  pub unended : unended_of text ≡ unended_of rest
  pub plain : has_zero line ≡ false

-- whether the first bytes of a text, of this length, are the lines before its first byte 0, and
-- this is their number
pub record IsWhole (text : List ℕ) (len count : ℕ) : Type 0 where
  pub within : len ≤ length text
  pub rows : rows_of (take len text) ≡ before_zero (rows_of text)
  pub ended : unended_of (take len text) ≡ []
  pub counted : count ≡ length (before_zero (rows_of text))
