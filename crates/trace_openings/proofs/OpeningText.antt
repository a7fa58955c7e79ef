-- Lines of words, written one after the other.
use Rattle.std.proofs.Common.{◌≡◌, ℕ, List, [], ◌∷◌, ◌++◌, Result, Ok, Err, sym, ap, ◌∙◌, append_assoc}
use Rattle.std.specs.Result.{OnOk}
use Rattle.text_lines.proofs.LinesLemmas.{rows_text-append, rows_text-one}
use Rattle.text_lines.specs.Lines.{rows_text}
use Rattle.trace_words.specs.Rows.{Word, Row}
use Rattle.trace_words.specs.Writing.{words_after_blanks}
use Rattle.trace_words.proofs.Blanks.{line_of_first}

-- a line is its first word, each other word after a blank, and the byte 0A
row_text : (word : Word) (words : Row) → rows_text ((word ∷ words) ∷ [])
    ≡ (word ++ words_after_blanks words) ++ 10 ∷ []
row_text word words = rows_text-one (word ∷ words)
    ∙ ap (λ (line : List ℕ). line ++ 10 ∷ []) (line_of_first word words)

-- the first word of a line is written, then the others, and then the line is ended, unless out of
-- memory
pub ended_line : (word : Word) (words : Row) (before first middle after : List ℕ) {T E : Type 0}
    (result : Result T E) → first ≡ before ++ word → middle ≡ first ++ words_after_blanks words
    → OnOk result (after ≡ middle ++ 10 ∷ [])
    → OnOk result (after ≡ before ++ rows_text ((word ∷ words) ∷ []))
ended_line word words before first middle after (Ok x) labelled written ended =
    ended
    ∙ ap (λ (bs : List ℕ). bs ++ 10 ∷ []) (written
    ∙ ap (λ (bs : List ℕ). bs ++ words_after_blanks words) labelled
    ∙ append_assoc before word (words_after_blanks words))
    ∙ append_assoc before (word ++ words_after_blanks words) (10 ∷ [])
    ∙ ap (λ (bs : List ℕ). before ++ bs) (sym (row_text word words))
ended_line word words before first middle after (Err error) labelled written ended = ended

-- lines are written, followed by others
pub joined : (rows others : List Row) (before middle after : List ℕ) → middle ≡ before
    ++ rows_text rows → after ≡ middle ++ rows_text others → after ≡ before
    ++ rows_text (rows ++ others)
joined rows others before middle after first second =
    second ∙ ap (λ (bs : List ℕ). bs ++ rows_text others) first
    ∙ append_assoc before (rows_text rows) (rows_text others)
    ∙ ap (λ (bs : List ℕ). before ++ bs) (sym (rows_text-append rows others))

-- lines are written, followed by others, unless out of memory
pub joined_last : (rows others : List Row) (before middle after : List ℕ) {T E : Type 0}
    (result : Result T E) → middle ≡ before ++ rows_text rows
    → OnOk result (after ≡ middle ++ rows_text others)
    → OnOk result (after ≡ before ++ rows_text (rows ++ others))
joined_last rows others before middle after (Ok x) first second =
    joined rows others before middle after first second
joined_last rows others before middle after (Err error) first second = second
