-- The lines of the console.
--     max_line       the maximum number of bytes of a line, with the byte 0A that ends it
--     lines_in       the lines of an input that are read
--     TakesLine      a line was read
--     SkipsLine      a line was skipped
use Rattle.std.specs.Prelude.{◌≡◌, ◌<◌, ◌≤◌, ℕ, ◌+◌, List, ◌∷◌, length, filter, nat_le, Option, Some}
use Rattle.text_lines.specs.Lines.{lines_of}

-- the maximum number of bytes of a line, with the byte 0A that ends it
abbrev pub max_line : ℕ
max_line = 8192

-- whether a line is short enough to be read
abbrev pub IsShort : List ℕ → Type 0
IsShort line = length line + 1 ≤ max_line

-- the lines of an input that are read: each that has at most 8,192 bytes with the byte 0A that ends
-- it
unfoldable pub lines_in : List ℕ → List (List ℕ)
lines_in input = filter (λ line. nat_le (length line + 1) max_line) (lines_of input)

-- whether the first line was read, and the text that follows it is left
pub record TakesLine (input line : List ℕ) (left : Option (List ℕ)) : Type 0 where
  pub rest : List ℕ
  pub left_is : left ≡ Some rest
  pub lines : lines_of input ≡ line ∷ lines_of rest
  pub short : IsShort line

-- whether the first line is too long and was skipped, and the text that follows it is left
pub record SkipsLine (input : List ℕ) (left : Option (List ℕ)) : Type 0 where
  pub line : List ℕ
  pub rest : List ℕ
  pub left_is : left ≡ Some rest
  pub lines : lines_of input ≡ line ∷ lines_of rest
  pub long : max_line < length line + 1
