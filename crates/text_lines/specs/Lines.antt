-- A text as its lines, each ended by the byte 0A.
--     lines_of      the lines of a text, without the bytes that end them
--     unended_of    the text after the last byte 0A
--     text_of       the text of lines
--     IsPlain       a line that any text can hold
--     rows_of       the words of each line of a text
--     rows_text     the text of lines of words
use Rattle.std.specs.Prelude.{◌≢◌, ℕ, Bool, false, List, [], ◌∷◌, ◌++◌, map}
use Rattle.std.specs.List.{list_all, AllByRecursion}
use Rattle.text_lines.specs.Parts.{parts_at}
use Rattle.text_lines.specs.Words.{words_of, line_of, is_word}

-- a list without its last element, which is the part after the last cut
abbrev pub all_but_last : List (List ℕ) → List (List ℕ)
all_but_last [] = []
all_but_last (part ∷ []) = []
all_but_last (part ∷ next ∷ parts) = part ∷ all_but_last (next ∷ parts)

-- the last of these parts
abbrev pub last_of : List (List ℕ) → List ℕ
last_of [] = []
last_of (part ∷ []) = part
last_of (part ∷ next ∷ parts) = last_of (next ∷ parts)

-- the lines of a text, in order: the bytes before each byte 0A
unfoldable pub lines_of : List ℕ → List (List ℕ)
lines_of text = all_but_last (parts_at 10 text)

-- the text after the last byte 0A: empty if the last line is ended
unfoldable pub unended_of : List ℕ → List ℕ
unended_of text = last_of (parts_at 10 text)

-- the text of lines
unfoldable pub text_of : List (List ℕ) → List ℕ
text_of [] = []
text_of (line ∷ lines) = line ++ 10 ∷ text_of lines

-- whether a line has no byte 0 or 0A
abbrev pub IsPlain : List ℕ → Type 0
IsPlain line = AllByRecursion (λ byte. (byte ≢ 0) × (byte ≢ 10)) line

-- the words of each line of a text
unfoldable pub rows_of : List ℕ → List (List (List ℕ))
rows_of text = map words_of (lines_of text)

-- the text of lines of words
unfoldable pub rows_text : List (List (List ℕ)) → List ℕ
rows_text rows = text_of (map line_of rows)

-- whether words make a line that is read back: one or more, each a word that a line can hold
abbrev pub is_row : List (List ℕ) → Bool
is_row [] = false
is_row (word ∷ words) = list_all is_word (word ∷ words)
