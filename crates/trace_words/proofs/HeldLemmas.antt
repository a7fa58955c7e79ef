-- Lines that are left at the end of a text.
use Rattle.std.proofs.Common.{◌≡◌, ℕ, ◌+◌, ◌-◌, ◌≤◌, List, [], ◌∷◌, ◌++◌, length, drop, take, Result, Ok, Err, refl, sym, ap, ap₂, ◌∙◌, arith, length-append, length-drop, take_all, append_assoc, add-one}
use Rattle.std.proofs.Math.Seq.{drop-append_seam}
use Rattle.std.proofs.lemmas.List.{take-append-drop}
use Rattle.wire_bytes.specs.Outcome.{Gives}
use Rattle.text_lines.specs.Lines.{rows_of, rows_text, unended_of, lines_of}
use Rattle.text_lines.specs.Words.{words_of}
use Rattle.text_lines.proofs.LinesLemmas.{rows_text-append, rows_text-rows_of, rows_of-taken, rows_of-none}
use Rattle.trace_words.proofs.PlaceLemmas.{words_read}
use Rattle.trace_words.proofs.PlacesBack.{Took}
use Rattle.trace_words.specs.Places.{Place, ReadsLines, first_as, line_as, at_line, place_at}
use Rattle.trace_words.specs.Rows.{Row}
use Rattle.trace_words.specs.declared.fault.RowFault.{RowFault}
use Rattle.trace_words.specs.declared.fault.RowFault.TheVariants as row_fault
use Rattle.trace_words.specs.declared.fault.TraceFault.TheVariants.{Line}

-- the slice of the text that has not been read
pub slice_is : (bytes text : List ℕ) (taken : ℕ) → bytes ≡ text
    → take (length bytes - taken) (drop taken bytes) ≡ drop taken text
slice_is bytes text taken is =
    let left = length-drop taken bytes in
    take_all (length bytes - taken) (drop taken bytes) (omega (arith, left)) ∙ ap (drop taken) is

-- what follows the front of a text
pub behind_front : (text front rest : List ℕ) → text ≡ front ++ rest → (length rest ≤ length text)
    × (drop (length text - length rest) text ≡ rest)
behind_front text front rest is =
    let l : length text ≡ length front + length rest = ap (λ (bytes : List ℕ). length bytes) is
    ∙ length-append front rest in
    let n : length text - length rest ≡ length front = omega (arith, l) in (
      omega (arith, l),
      ap (λ (k : ℕ). drop k text) n
          ∙ ap (λ (bytes : List ℕ). drop (length front) bytes) is ∙ drop-append_seam front rest,
    )

-- the text at a place is the one that follows the lines read from its start
pub text_behind : (number n : ℕ) (text rest : List ℕ) (rows : List Row) (behind : Place)
    → Took rows (place_at number text) behind → place_at n rest ≡ behind → text
    ≡ rows_text rows ++ rest
text_behind number n text rest rows behind took at =
    let lines : rows_of text ≡ rows ++ rows_of rest =
    took.lines ∙ ap (λ (p : Place). rows ++ p.rows) (sym at) in
    let unended : unended_of text ≡ unended_of rest =
    sym took.unended ∙ ap (λ (p : Place). p.unended) (sym at) in
    sym (rows_text-rows_of text)
    ∙ ap₂ (λ (them : List Row) (bytes : List ℕ). rows_text them ++ bytes) lines unended
    ∙ ap (λ (bytes : List ℕ). bytes ++ unended_of rest) (rows_text-append rows (rows_of rest))
    ∙ append_assoc (rows_text rows) (rows_text (rows_of rest)) (unended_of rest)
    ∙ ap (λ (bytes : List ℕ). rows_text rows ++ bytes) (rows_text-rows_of rest)

-- the line after what was read of a text, and the text after that line
pub line_behind : (text line rest : List ℕ) (taken : ℕ) → lines_of (drop taken text) ≡ line
    ∷ lines_of rest → unended_of (drop taken text) ≡ unended_of rest
    → (length rest ≤ length text) × (drop (length text - length rest) text ≡ rest)
line_behind text line rest taken is unended =
    let here = drop taken text in
    let row = words_of line ∷ [] in
    let took : Took row (place_at 0 here) (place_at 1 rest) =
    record { lines = rows_of-taken here line rest is; number = refl; unended = sym unended } in
    behind_front text (take taken text ++ rows_text row) rest
    (sym (take-append-drop taken text)
    ∙ ap (λ (bytes : List ℕ). take taken text ++ bytes)
    (text_behind 0 1 here rest row (place_at 1 rest) took refl)
    ∙ sym (append_assoc (take taken text) (rows_text row) rest))

-- the words of the first line, and the place after it
first_line : (number : ℕ) (rows : List Row) (unended : List ℕ) (row : Row) (others : List Row)
    (ends : List ℕ) → rows ≡ row ∷ others → unended ≡ ends
    → line_as (λ words. Ok words) (record { number = number; rows = rows; unended = unended })
    ≡ Ok (row, record { number = number + 1; rows = others; unended = ends })
unfolding line_as
first_line number rows unended row others ends is same = rw (is, same, add-one) refl

-- the first line of a text is read as a definition reads its words
pub held_read : {X : Type 0} (given : Row → Result X RowFault) (number : ℕ)
    (text line rest : List ℕ) (read : Result X RowFault) → lines_of text ≡ line ∷ lines_of rest
    → unended_of text ≡ unended_of rest → Gives row_fault.Memory (λ x. x) read
    (given (words_of line))
    → ReadsLines (λ x. x) (at_line number read) (place_at (number + 1) rest)
    (line_as given (place_at number text))
held_read given number text line rest read is unended reads =
    words_read given (place_at number text) (words_of line) (place_at (number + 1) rest) read
    (first_line number (rows_of text) (unended_of text) (words_of line) (rows_of rest)
    (unended_of rest) (rows_of-taken text line rest is) unended) reads

-- no line is left
pub none_held : {X : Type 0} (given : Row → Result X RowFault) (number : ℕ) (text : List ℕ)
    → lines_of text ≡ [] → line_as given (place_at number text) ≡ Err (Line number)
unfolding line_as
none_held {X} given number text e = ap (λ (rows : List Row). first_as {X = X} given number rows
    (unended_of text)) (rows_of-none text e)
