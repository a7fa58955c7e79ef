-- Lines that begin with a fixed word.
--     words_after     the words after the first one
--     labelled_value  a line of a first word and one value
--     IsWordReader    what code reads from a word, compared with a definition
--     number_row      the line that is written of a first word and a number
use Rattle.std.specs.Prelude.{ℕ, nat_eq, decimal, [], ◌∷◌, Result, Ok}
use Rattle.std.specs.Cmp.Lexicographic.{pointwise}
use Rattle.std.specs.Fn.{Once, FnOnceReturnsAt}
use denote.Ref.{Bor}
use Rattle.wire_bytes.specs.Outcome.{◌>>=◌, ◌>>◌, guard, Gives}
use Rattle.trace_words.specs.Reading.{last_as}
use Rattle.trace_words.specs.Rows.{Word, Row, Read, word_at}
use Rattle.trace_words.specs.declared.fault.RowFault.{RowFault}
use Rattle.trace_words.specs.declared.fault.RowFault.TheVariants.{Wrong, Memory}

-- the words after the first one, which must be this word
unfoldable pub words_after : Word → Row → Read (Unit {0})
words_after label row = do
  first ← word_at row
  guard (pointwise nat_eq first.0 label) Wrong
  Ok (tt, first.1)

-- the value of a line of two words, this first word and one for the value
abbrev pub labelled_value : {X : Type 0} → Word → (Word → Result X RowFault) → Row
    → Result X RowFault
labelled_value label value_in row = do
  words ← words_after label row
  last_as value_in words.1

-- whether whatever this code can return for a word is what the definition gives
abbrev pub IsWordReader : {F X : Type 0} → Once F (Bor Word × Unit {0}) (Result X RowFault) → F
    → (Word → Result X RowFault) → Type 0
IsWordReader {F} {X} calls read value_in = (word : Word) (given : Result X RowFault)
    → FnOnceReturnsAt calls read word given → Gives Memory (λ x. x) given (value_in word)

-- the line of a first word and a number
abbrev pub number_row : Word → ℕ → Row
number_row name number = name ∷ decimal number ∷ []
