-- The words of a line, read one after the other.
--     Read             the result of a reader of X: the value and the words after it, or a fault
--     Reads            what code that reads words returns, compared with a definition
--     or_wrong, if_last  a value that must be present; a value after which no word is left
--     word_at          the next word
--     last_word        the next word, which must be the last
--     all_at           values up to the end of the line, with an upper bound on their number
use Rattle.std.specs.Prelude.{◌≡◌, ℕ, zero, suc, List, [], ◌∷◌, Option, Some, None, Result, Ok, Err}
use Rattle.wire_bytes.specs.Outcome.{◌>>=◌, Fails}
use Rattle.trace_words.specs.declared.fault.RowFault.{RowFault}
use Rattle.trace_words.specs.declared.fault.RowFault.TheVariants.{Wrong, Memory}

-- a word of a line: its bytes, without blanks
abbrev pub Word : Type 0
Word = List ℕ

-- the words of a line
abbrev pub Row : Type 0
Row = List Word

-- the result of reading words as an X: the value and the words after it, or the fault of the line
abbrev pub Read : Type 0 → Type 0
Read X = Result (X × Row) RowFault

-- whether code returns what a definition gives and leaves the words after those that it read, or
-- fails as the definition does, or is out of memory
abbrev pub Reads : {X Y : Type 0} → (X → Y) → Result X RowFault → Row → Read Y → Type 0
Reads view (Ok x) new given = given ≡ Ok (view x, new)
Reads view (Err fault) new given = Fails Memory fault given

-- a value that must be present
abbrev pub or_wrong : {X : Type 0} → Option X → Result X RowFault
or_wrong (Some x) = Ok x
or_wrong None = Err Wrong

-- a value after which no word is left
abbrev pub if_last : {X : Type 0} → Row → X → Result X RowFault
if_last [] x = Ok x
if_last (word ∷ words) x = Err Wrong

-- the next word
abbrev pub word_at : Row → Read Word
word_at [] = Err Wrong
word_at (word ∷ words) = Ok (word, words)

-- the next word, which must be the last
abbrev pub last_word : Row → Result Word RowFault
last_word [] = Err Wrong
last_word (word ∷ []) = Ok word
last_word (word ∷ other ∷ words) = Err Wrong

-- the values from here to the end of the line, at most this number of them; the reader of a value
-- gets the first word of it and the words after that
unfoldable pub all_at : {X : Type 0} → (Word → Row → Read X) → ℕ → Row → Result (List X) RowFault
all_at item_from zero [] = Ok []
all_at item_from (suc room) [] = Ok []
all_at item_from zero (word ∷ words) = Err Wrong
all_at item_from (suc room) (word ∷ words) = do
  first ← item_from word words
  others ← all_at item_from room first.1
  Ok (first.0 ∷ others)
