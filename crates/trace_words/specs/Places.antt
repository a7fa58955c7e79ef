-- The lines of a trace, read one after the other.
--     Place            the lines that are left, and the number of the first
--     ReadLines        the result of a reader of lines: a value and the place after it, or a fault
--     ReadsLines       what code that reads lines returns, compared with a definition
--     line_as          the next line, read as a value
--     IsRowReader      what code reads from the words of a line, compared with a definition
--     IsLineReader     what code reads from a line, compared with a definition
--     at_line          the fault of a line, with its number
--     ended_at         a value after which nothing is left
--     place_at         the place at the start of a text whose first line has this number
--     place_of         the place at the start of a text whose lines are counted from 1
use Rattle.std.specs.Prelude.{◌≡◌, ℕ, suc, List, [], ◌∷◌, Result, Ok, Err}
use Rattle.std.specs.Fn.{Once, FnOnceReturnsAt, FnOnceReturnsAtMut}
use denote.Ref.{Bor, MutBor}
use Rattle.wire_bytes.specs.Outcome.{Fails, Gives}
use Rattle.text_lines.specs.Lines.{rows_of, unended_of}
use Rattle.text_lines.specs.Words.{words_of}
use Rattle.trace_words.specs.Rows.{Row}
use Rattle.trace_words.specs.declared.fault.RowFault.{RowFault}
use Rattle.trace_words.specs.declared.fault.RowFault.TheVariants as row_fault
use Rattle.trace_words.specs.declared.fault.RowFault.TheVariants.{Wrong}
use Rattle.trace_words.specs.declared.fault.TraceFault.{TraceFault}
use Rattle.trace_words.specs.declared.fault.TraceFault.TheVariants.{Line, Memory}

-- the words of each line that is left, the number of the first of them, and the text after the last
-- byte 0A
pub record Place : Type 0 where
  pub number : ℕ
  pub rows : List Row
  pub unended : List ℕ

-- the result of reading lines as an X: the value and the place after it, or the fault of a line
abbrev pub ReadLines : Type 0 → Type 0
ReadLines X = Result (X × Place) TraceFault

-- whether code returns what a definition gives and leaves the lines after those that it read, or
-- fails as the definition does, or is out of memory
abbrev pub ReadsLines : {X Y : Type 0} → (X → Y) → Result X TraceFault → Place → ReadLines Y
    → Type 0
ReadsLines view (Ok x) new given = given ≡ Ok (view x, new)
ReadsLines view (Err fault) new given = Fails Memory fault given

-- a line that was read, and the place after it
abbrev pub line_result : {X : Type 0} → Result X RowFault → ℕ → List Row → List ℕ → ReadLines X
line_result (Ok x) number rows unended =
    Ok (x, record { number = suc number; rows = rows; unended = unended })
line_result (Err fault) number rows unended = Err (Line number)

-- the first of these lines as such a value; a line that is missing, or not ended, is a fault
abbrev pub first_as : {X : Type 0} → (Row → Result X RowFault) → ℕ → List Row → List ℕ → ReadLines X
first_as value_in number [] unended = Err (Line number)
first_as value_in number (row ∷ rows) unended = line_result (value_in row) number rows unended

-- the next line as such a value
unfoldable pub line_as : {X : Type 0} → (Row → Result X RowFault) → Place → ReadLines X
line_as value_in place = first_as value_in place.number place.rows place.unended

-- whether whatever this code can return for the words of a line is what the definition gives
abbrev pub IsRowReader : {F X : Type 0}
    → Once F (MutBor Row × Unit {0}) (Result X RowFault × (MutBor Row × Unit {0})) → F
    → (Row → Result X RowFault) → Type 0
IsRowReader {F} {X} calls row value_from = (words after : Row) (read : Result X RowFault)
    → FnOnceReturnsAtMut calls row words read after
    → Gives row_fault.Memory (λ x. x) read (value_from words)

-- whether whatever this code can return for a line is what the definition gives for the words of
-- the line
abbrev pub IsLineReader : {F X : Type 0} → Once F (Bor (List ℕ) × Unit {0}) (Result X RowFault) → F
    → (Row → Result X RowFault) → Type 0
IsLineReader {F} {X} calls read value_from = (line : List ℕ) (given : Result X RowFault)
    → FnOnceReturnsAt calls read line given
    → Gives row_fault.Memory (λ x. x) given (value_from (words_of line))

-- the result of reading the words of a line, a fault with the number of the line
abbrev pub at_line : {X : Type 0} → ℕ → Result X RowFault → Result X TraceFault
at_line number (Ok x) = Ok x
at_line number (Err Wrong) = Err (Line number)
at_line number (Err row_fault.Memory) = Err Memory

-- a value if nothing is left; any text that is left, ended or not, is a fault
abbrev pub value_at_end : {X : Type 0} → ℕ → List Row → List ℕ → X → Result X TraceFault
value_at_end number [] [] x = Ok x
value_at_end number [] (byte ∷ bytes) x = Err (Line number)
value_at_end number (row ∷ rows) unended x = Err (Line number)

-- a value after which nothing is left
unfoldable pub ended_at : {X : Type 0} → Place → X → Result X TraceFault
ended_at place x = value_at_end place.number place.rows place.unended x

-- the place at the start of a text whose first line has this number
abbrev pub place_at : ℕ → List ℕ → Place
place_at number text = record { number = number; rows = rows_of text; unended = unended_of text }

-- the place at the start of a text whose lines are counted from 1
abbrev pub place_of : List ℕ → Place
place_of text = place_at 1 text
