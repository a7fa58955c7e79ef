-- The text of the whole lines of a text is read as these lines.
use Rattle.std.proofs.Common.{◌≡◌, ℕ, ◌≤◌, Bool, true, false, List, [], ◌∷◌, ◌++◌, length, map}
use Rattle.std.proofs.Common.{ap, ◌∙◌, arith, length-append}
use Rattle.std.specs.Prelude.{if◌then◌else◌}
use Rattle.text_lines.specs.Lines.{lines_of, rows_of, rows_text, unended_of}
use Rattle.text_lines.specs.Words.{line_of, words_of}
use Rattle.text_lines.proofs.LinesLemmas.{lines_of-line, lines_of-nil, rows_of-none, rows_of-taken}
use Rattle.text_lines.proofs.LinesLemmas.{rows_text-cons, rows_text-nil, rows_text-rows_of}
use Rattle.text_lines.proofs.LinesLemmas.{unended_of-line, unended_of-nil}
use Rattle.text_lines.proofs.WordsLemmas.{HasNo, line_of-words_of}
use Rattle.trace_words.proofs.WholeLemmas.{HaveNone, lines_have_none}
use Rattle.trace_words.specs.Rows.{Row}
use Rattle.trace_words.specs.WholeLines.{before_zero, has_zero, whole_text}

-- the words of lines without a byte 0A
abbrev AreLines : List Row → Type 0
AreLines [] = Unit {0}
AreLines (row ∷ rows) = (HasNo 10 (line_of row) × (words_of (line_of row) ≡ row)) × AreLines rows

words_are_lines : (lines : List (List ℕ)) → HaveNone lines → AreLines (map words_of lines)
words_are_lines [] none = tt
words_are_lines (line ∷ lines) none =
    let same = line_of-words_of line in
    ((rw same none.0, ap words_of same), words_are_lines lines none.1)

rows_are_lines : (text : List ℕ) → AreLines (rows_of text)
unfolding rows_of
rows_are_lines text = words_are_lines (lines_of text) (lines_have_none text)

kept_are_lines : (rows : List Row) → AreLines rows → AreLines (before_zero rows)
kept_are_lines [] are = tt
kept_are_lines (row ∷ rows) are = by (has_zero (line_of row)) (kept_are_lines rows are.1)
  where
    by : (zero : Bool) → AreLines (before_zero rows)
        → AreLines (if zero then [] else row ∷ before_zero rows)
    by true others = tt
    by false others = (are.0, others)

lines_again : (rows : List Row) → AreLines rows → rows_of (rows_text rows) ≡ rows
lines_again [] are = ap rows_of rows_text-nil ∙ rows_of-none [] lines_of-nil
lines_again (row ∷ rows) are =
    ap rows_of (rows_text-cons row rows)
    ∙ rows_of-taken (line_of row ++ 10 ∷ rows_text rows) (line_of row) (rows_text rows)
    (lines_of-line (line_of row) (rows_text rows) are.0.0)
    ∙ ap (λ (words : Row). words ∷ rows_of (rows_text rows)) are.0.1
    ∙ ap (λ (others : List Row). row ∷ others) (lines_again rows are.1)

ended_again : (rows : List Row) → AreLines rows → unended_of (rows_text rows) ≡ []
ended_again [] are = ap unended_of rows_text-nil ∙ unended_of-nil
ended_again (row ∷ rows) are =
    ap unended_of (rows_text-cons row rows)
    ∙ unended_of-line (line_of row) (rows_text rows) are.0.0 ∙ ended_again rows are.1

pub whole_rows : (text : List ℕ) → rows_of (whole_text text) ≡ before_zero (rows_of text)
whole_rows text = lines_again (before_zero (rows_of text))
    (kept_are_lines (rows_of text) (rows_are_lines text))

pub whole_ended : (text : List ℕ) → unended_of (whole_text text) ≡ []
whole_ended text = ended_again (before_zero (rows_of text))
    (kept_are_lines (rows_of text) (rows_are_lines text))

-- the whole lines are no longer than the text
kept_short : (rows : List Row) → length (rows_text (before_zero rows)) ≤ length (rows_text rows)
kept_short [] = omega arith
kept_short (row ∷ rows) = by (has_zero (line_of row)) (kept_short rows)
  where
    by : (zero : Bool) → length (rows_text (before_zero rows)) ≤ length (rows_text rows)
        → length (rows_text (if zero then [] else row ∷ before_zero rows))
        ≤ length (rows_text (row ∷ rows))
    by true others =
        let none = ap (λ (bytes : List ℕ). length bytes) rows_text-nil in omega (arith, none)
    by false others =
        let one = ap (λ (bytes : List ℕ). length bytes) (rows_text-cons row (before_zero rows)) in
        let all = ap (λ (bytes : List ℕ). length bytes) (rows_text-cons row rows) in
        omega (
          arith,
          others,
          one,
          all,
          length-append (line_of row) (10 ∷ rows_text (before_zero rows)),
          length-append (line_of row) (10 ∷ rows_text rows),
        )

pub whole_short : (text : List ℕ) → length (whole_text text) ≤ length text
whole_short text =
    let all = ap (λ (bytes : List ℕ). length bytes) (rows_text-rows_of text) in
    omega (
      arith,
      kept_short (rows_of text),
      all,
      length-append (rows_text (rows_of text)) (unended_of text),
    )
