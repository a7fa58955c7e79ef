-- The words that are written for values.
--     words_after_blanks        words, each after a blank
--     row_text                  the words of a line as its text
--     flag_number, data_word    values as words
--     all_words                 several values, one after the other
--     IsHeld                    a Data within the limits of its text
use Rattle.std.specs.Prelude.{ℕ, Bool, true, false, decimal, List, [], ◌∷◌, ◌++◌}
use Rattle.hex.specs.Hex.{encode_upper}
use Rattle.cosem_axdr.specs.Spelling.{text, IsFit}
use Rattle.cosem_axdr.specs.View.{tree_of}
use Rattle.cosem_axdr.specs.declared.value.Data.{Data}
use Rattle.trace_words.specs.Rows.{Word, Row}

-- words, each after a blank
abbrev pub words_after_blanks : Row → List ℕ
words_after_blanks [] = []
words_after_blanks (word ∷ words) = 32 ∷ word ++ words_after_blanks words

-- the text of a line: its first word, and each other word after a blank
abbrev pub row_text : Row → List ℕ
row_text [] = []
row_text (first ∷ words) = first ++ words_after_blanks words

-- 1 for true, 0 for false
abbrev pub flag_number : Bool → ℕ
flag_number true = 1
flag_number false = 0

-- the words of several values, one after the other
unfoldable pub all_words : {X : Type 0} → (X → Row → Row) → List X → Row
all_words words [] = []
all_words words (x ∷ xs) = words x (all_words words xs)

-- a Data as the word that is written for it
abbrev pub data_word : Data → Word
data_word value = encode_upper (text (tree_of value))

-- a number, before other words
abbrev pub value_words : ℕ → Row → Row
value_words value words = decimal value ∷ words

-- whether a Data is within the limits of a reader, so that its text is read back
pub record IsHeld (value : Data) : Type 0 where
  pub fits : IsFit (tree_of value)
