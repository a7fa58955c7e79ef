-- The values of single words.
--     number_in, flag_in, bytes_in, data_in, value_in    the value of a word
--     canonical_data                                     a Data, if its bytes are its encoding
--     next_as, last_as                                   the value of the next word, or of the last
use Rattle.std.specs.Prelude.{ℕ, Bool, ◌==◌, nat_eq, List, Result, Ok}
use Rattle.std.specs.Cmp.Lexicographic.{pointwise}
use Rattle.std.specs.Result.{result_ok}
use Rattle.wire_bytes.specs.Outcome.{◌>>=◌, ◌>>◌, guard}
use Rattle.cosem_axdr.specs.Reading.{first_data}
use Rattle.cosem_axdr.specs.Spelling.{text}
use Rattle.cosem_axdr.specs.View.{tree_of}
use Rattle.cosem_axdr.specs.declared.value.Data.{Data}
use Rattle.text_lines.specs.Hexadecimal.{bytes_of}
use Rattle.text_lines.specs.Numbers.{number_of}
use Rattle.trace_words.specs.Rows.{Word, Row, Read, or_wrong, word_at, last_word}
use Rattle.trace_words.specs.declared.fault.RowFault.{RowFault}
use Rattle.trace_words.specs.declared.fault.RowFault.TheVariants.{Wrong}

-- a decimal number up to a limit
abbrev pub number_in : ℕ → Word → Result ℕ RowFault
number_in limit word = or_wrong (number_of limit word)

-- 0 for false, 1 for true
abbrev pub flag_in : Word → Result Bool RowFault
flag_in word = do
  number ← number_in 1 word
  Ok (number == 1)

-- bytes in hexadecimal
abbrev pub bytes_in : Word → Result (List ℕ) RowFault
bytes_in word = or_wrong (bytes_of word)

-- a Data that was read from bytes, if these are the encoding that is written for it
abbrev pub canonical_data : List ℕ → Data → Result Data RowFault
canonical_data bytes value = do
  guard (pointwise nat_eq (text (tree_of value)) bytes) Wrong
  Ok value

-- a Data in hexadecimal: the word holds all of its bytes, in the encoding that is written
unfoldable pub data_in : Word → Result Data RowFault
data_in word = do
  bytes ← bytes_in word
  read ← or_wrong (result_ok (first_data bytes))
  canonical_data bytes read.0

-- the value of the next word
abbrev pub next_as : {X : Type 0} → (Word → Result X RowFault) → Row → Read X
next_as value_in words = do
  word ← word_at words
  value ← value_in word.0
  Ok (value, word.1)

-- the value of the next word, which must be the last
abbrev pub last_as : {X : Type 0} → (Word → Result X RowFault) → Row → Result X RowFault
last_as value_in words = do
  word ← last_word words
  value_in word

-- a number of 32 bits
abbrev pub value_in : Word → Result ℕ RowFault
value_in word = number_in 4294967295 word
