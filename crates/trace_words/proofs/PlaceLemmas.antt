-- The lines of a text, read one after the other.
use Rattle.std.proofs.Common.{◌≡◌, ℕ, suc, ◌+◌, ◌<◌, ◌≤◌, ◌^◌, List, [], ◌∷◌, ◌++◌, length, Result, Ok, Err, refl, sym, subst, ap, ◌∙◌, arith, length-append, inl, inr}
use Rattle.std.specs.Prelude.{IfOk, IsErrOf}
use Rattle.wire_bytes.proofs.OutcomeLemmas.{ok_is}
use Rattle.wire_bytes.specs.Outcome.{Fails, Gives}
use Rattle.trace_words.specs.declared.fault.RowFault.{RowFault}
use Rattle.trace_words.specs.declared.fault.RowFault.TheVariants as row_fault
use Rattle.trace_words.specs.declared.fault.RowFault.TheVariants.{Wrong}
use Rattle.text_lines.specs.Lines.{rows_of, rows_text, unended_of, lines_of}
use Rattle.text_lines.specs.Words.{line_of, words_of}
use Rattle.text_lines.proofs.LinesLemmas.{rows_text-cons, rows_text-nil, rows_text-rows_of, rows_of-taken, rows_of-none, lines_of-nil, unended_of-nil}
use Rattle.trace_words.specs.Places.{Place, ReadsLines, line_result, first_as, line_as, at_line, value_at_end, ended_at, place_at}
use Rattle.trace_words.specs.Rows.{Row}
use Rattle.trace_words.specs.declared.fault.TraceFault.{TraceFault}
use Rattle.trace_words.specs.declared.fault.TraceFault.TheVariants.{Line, Memory}

-- each line has at least one byte
pub rows_are_few : (rows : List Row) → length rows ≤ length (rows_text rows)
rows_are_few [] = omega arith
rows_are_few (row ∷ rows) =
    let h : rows_text (row ∷ rows) ≡ line_of row ++ 10 ∷ rows_text rows = rows_text-cons row rows in
    let l : length (line_of row ++ 10 ∷ rows_text rows) ≡ length (line_of row)
    + length (10 ∷ rows_text rows) = length-append (line_of row) (10 ∷ rows_text rows) in
    let others = rows_are_few rows in
    rw h (omega (arith, l, others))

-- a text has no more lines than bytes
pub few_rows : (text : List ℕ) → length (rows_of text) ≤ length text
few_rows text =
    let h : length (rows_text (rows_of text) ++ unended_of text) ≡ length text =
    ap (λ (bytes : List ℕ). length bytes) (rows_text-rows_of text) in
    let l : length (rows_text (rows_of text) ++ unended_of text) ≡ length (rows_text (rows_of text))
    + length (unended_of text) = length-append (rows_text (rows_of text)) (unended_of text) in
    let few = rows_are_few (rows_of text) in
    omega (arith, h, l, few)

pub row_taken : (text line rest : List ℕ) → lines_of text ≡ line ∷ lines_of rest → rows_of text
    ≡ words_of line ∷ rows_of rest
row_taken text line rest e = rows_of-taken text line rest e

pub none_taken : (text : List ℕ) → lines_of text ≡ [] → rows_of text ≡ []
none_taken text e = rows_of-none text e

-- the number of a line that is left can be increased by one
pub number_goes_on : (number : ℕ) (text line rest : List ℕ) → lines_of text ≡ line ∷ lines_of rest
    → number + length (rows_of text) < 2 ^ 64 → number + 1 < 2 ^ 64
number_goes_on number text line rest e room =
    let l : length (rows_of text) ≡ suc (length (rows_of rest)) =
    ap (λ (rows : List Row). length rows) (rows_of-taken text line rest e) in
    omega (arith, l, room)

-- nothing is left of an empty text
pub nothing_is_left : (place : Place) (number : ℕ) (text : List ℕ) → place ≡ place_at number text
    → text ≡ [] → ended_at {X = Unit {0}} place tt ≡ Ok tt
unfolding ended_at
nothing_is_left place number text is e =
    ap (λ (p : Place). ended_at {X = Unit {0}} p tt) is
    ∙ ap (λ (bytes : List ℕ). value_at_end {X = Unit {0}} number (rows_of bytes)
    (unended_of bytes) tt) e
    ∙ ap (λ (rows : List Row). value_at_end {X = Unit {0}} number rows (unended_of []) tt)
    (rows_of-none [] lines_of-nil)
    ∙ ap (λ (bytes : List ℕ). value_at_end {X = Unit {0}} number [] bytes tt) unended_of-nil

-- something is left of a text that is not empty
pub something_is_left : (place : Place) (number : ℕ) (text : List ℕ) → place ≡ place_at number text
    → (text ≡ [] → ⊥) → ended_at {X = Unit {0}} place tt ≡ Err (Line number)
unfolding ended_at
something_is_left place number text is some = ap (λ (p : Place). ended_at {X = Unit {0}} p tt) is
    ∙ by_rows (rows_of text) (unended_of text) (rows_text-rows_of text)
  where
    by_rows : (rows : List Row) (unended : List ℕ) → rows_text rows ++ unended ≡ text
        → value_at_end {X = Unit {0}} number rows unended tt ≡ Err (Line number)
    by_rows [] [] e = absurd (some (sym e ∙ ap (λ (bytes : List ℕ). bytes ++ []) rows_text-nil))
    by_rows [] (byte ∷ bytes) e = refl
    by_rows (row ∷ rows) unended e = refl

-- a text of no bytes
pub no_bytes : (bytes text : List ℕ) → bytes ≡ text → length bytes ≡ 0 → text ≡ []
no_bytes bytes [] is e = refl
no_bytes bytes (byte ∷ others) is e =
    let l : length bytes ≡ length (byte ∷ others) = ap (λ (b : List ℕ). length b) is in
    absurd (omega (arith, l, e))

-- the words of the first line are read as a definition reads them
words_read_at : {X : Type 0} (given : Row → Result X RowFault) (number : ℕ) (rows : List Row)
    (unended : List ℕ) (words : Row) (behind : Place) (read : Result X RowFault)
    → first_as (λ row. Ok row) number rows unended ≡ Ok (words, behind)
    → Gives row_fault.Memory (λ x. x) read (given words)
    → ReadsLines (λ x. x) (at_line number read) behind (first_as given number rows unended)
words_read_at given number [] unended words behind read e reads = absurd cc
words_read_at {X} given number (row ∷ rows) unended words behind (Ok x) e reads =
    let is = ok_is (row, record { number = suc number; rows = rows; unended = unended }) (
      words,
      behind,
    ) e in
    ap (λ (p : Row × Place). line_result (given p.0) number rows unended) is
    ∙ ap (λ (r : Result X RowFault). line_result r number rows unended) reads
    ∙ ap (λ (p : Row × Place). Ok (x, p.1)) is
words_read_at {X} given number (row ∷ rows) unended words behind (Err Wrong) e
    (inl memory) = absurd cc
words_read_at {X} given number (row ∷ rows) unended words behind (Err Wrong) e (inr wrong) =
    let is = ok_is (row, record { number = suc number; rows = rows; unended = unended }) (
      words,
      behind,
    ) e in
    inr (ap (λ (p : Row × Place). line_result (given p.0) number rows unended) is
    ∙ ap (λ (r : Result X RowFault). line_result r number rows unended) wrong)
words_read_at {X} given number (row ∷ rows) unended words behind (Err row_fault.Memory) e
    reads = inl refl

pub words_read : {X : Type 0} (given : Row → Result X RowFault) (place : Place) (words : Row)
    (behind : Place) (read : Result X RowFault)
    → line_as (λ row. Ok row) place ≡ Ok (words, behind)
    → Gives row_fault.Memory (λ x. x) read (given words)
    → ReadsLines (λ x. x) (at_line place.number read) behind (line_as given place)
unfolding line_as
words_read given place words behind read e reads =
    words_read_at given place.number place.rows place.unended words behind read e reads

-- the result of a line is the result of its words
pub answer_at_line : {X : Type 0} (P : Result X RowFault → Type 0) (number : ℕ)
    (read : Result X RowFault) → P read → IfOk (at_line number read) (λ x. P (Ok x))
answer_at_line P number (Ok x) p = p
answer_at_line P number (Err Wrong) p = tt
answer_at_line P number (Err row_fault.Memory) p = tt

-- a line is out of memory only if its words are
pub memory_at_line : {X : Type 0} (P : Result X RowFault → Type 0) (number : ℕ)
    (read : Result X RowFault) → P read → at_line number read ≡ Err Memory
    → P (Err row_fault.Memory)
memory_at_line P number (Ok x) p e = absurd cc
memory_at_line P number (Err Wrong) p e = absurd cc
memory_at_line P number (Err row_fault.Memory) p e = p

-- a line that is missing, or not ended, is a fault for every reader
missing_at : {X : Type 0} (value_from : Row → Result X RowFault) (number : ℕ) (rows : List Row)
    (unended : List ℕ) (fault : TraceFault)
    → Fails Memory fault (first_as (λ row. Ok row) number rows unended)
    → Fails Memory fault (first_as value_from number rows unended)
missing_at value_from number rows unended fault (inl memory) = inl memory
missing_at value_from number [] unended fault (inr e) = inr cc
missing_at value_from number (row ∷ rows) unended fault (inr e) = absurd cc

pub words_missing : {X : Type 0} (value_from : Row → Result X RowFault) (place : Place)
    (fault : TraceFault)
    → Fails Memory fault (line_as (λ row. Ok row) place)
    → Fails Memory fault (line_as value_from place)
unfolding line_as
words_missing value_from place fault fails = missing_at value_from place.number place.rows
    place.unended fault fails

-- what was read is what is returned
pub answer_is : {X : Type 0} (P : Result X RowFault → Type 0) (read : Result X RowFault) → P read
    → IfOk read (λ x. P (Ok x))
answer_is P (Ok x) p = p
answer_is P (Err fault) p = tt

-- a fault that was read is what is returned
pub fault_is : {X : Type 0} (P : Result X RowFault → Type 0) (read : Result X RowFault)
    (fault : RowFault) → P read → read ≡ Err fault → P (Err fault)
fault_is P read fault p e = subst P e p

-- a fault of one result as the fault of another
pub same_fault : {X Y : Type 0} (fault other : TraceFault) → IsErrOf {T = X} (Err fault) other
    → IsErrOf {T = Y} (Err fault) other
same_fault fault other e =
    let same : fault ≡ other = cc in
    ap Err same

abbrev pub place : ℕ → List Row → List ℕ → Place
place number rows unended = record { number = number; rows = rows; unended = unended }

pub line_again : {X : Type 0} (value_in : Row → Result X RowFault) (row : Row) (x : X) (number : ℕ)
    (rows : List Row) (unended : List ℕ)
    → value_in row ≡ Ok x → line_as value_in (place number (row ∷ rows) unended)
    ≡ Ok (x, place (suc number) rows unended)
unfolding line_as
line_again value_in row x number rows unended e = ap (λ r. line_result r number rows unended) e
