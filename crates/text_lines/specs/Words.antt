-- A line as its words, with one blank, the byte 20, between words.
--     words_of     the words of a line
--     line_of      the line of words
--     is_word      whether bytes are a word that a line can hold
use Rattle.std.specs.Prelude.{ℕ, Bool, false, not, ◌&&◌, ◌==◌, List, [], ◌∷◌, Option, Some, None}
use Rattle.std.specs.List.{list_all, join_with_byte}
use Rattle.text_lines.specs.Parts.{parts_at}

-- the words of a line: the bytes between its blanks. There is an empty word between two adjacent
-- blanks, before a blank at the start, after one at the end, and in an empty line
unfoldable pub words_of : List ℕ → List (List ℕ)
words_of line = parts_at 32 line

-- the line of words
unfoldable pub line_of : List (List ℕ) → List ℕ
line_of words = join_with_byte 32 words

-- whether a byte is neither a blank nor the end of a line
abbrev pub is_word_byte : ℕ → Bool
is_word_byte b = not (b == 32) && not (b == 10)

-- whether bytes are a word: one or more, none of them a blank or the end of a line
abbrev pub is_word : List ℕ → Bool
is_word [] = false
is_word (b ∷ bytes) = list_all is_word_byte (b ∷ bytes)

-- the words of the rest of a line, none if there is no rest
abbrev pub words_left : Option (List ℕ) → List (List ℕ)
words_left None = []
words_left (Some line) = words_of line
