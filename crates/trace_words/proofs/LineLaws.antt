-- The laws of the lines of a trace, by those of their parts.
--     IsLine            the laws of a line
--     part_line         a line of a first word and a part
--     tested_line       a line of which only the values that pass a test are taken
use Rattle.std.proofs.Common.{◌≡◌, ℕ, ◌+◌, ◌≤◌, Bool, true, ◌∷◌, ◌++◌, length, Result, Ok}
use Rattle.std.proofs.Common.{refl, sym, ap, ◌∙◌, arith}
use Rattle.wire_bytes.specs.Outcome.{◌>>=◌, ◌>>◌, guard}
use Rattle.wire_bytes.proofs.OutcomeLemmas.{ok_is, bind_ok, guard_ok}
use Rattle.text_lines.specs.Lines.{is_row}
use Rattle.text_lines.specs.Words.{is_word}
use Rattle.trace_words.proofs.LabelsBack.{IsRowBack, behind_back}
use Rattle.trace_words.proofs.PartLaws.{Nothing, IsExact, line_back, line_again}
use Rattle.trace_words.proofs.ShortRows.{IsShort, word_on, words_in}
use Rattle.trace_words.proofs.WordLaws.{more, behind_again}
use Rattle.trace_words.specs.Labels.{words_after}
use Rattle.trace_words.specs.Parts.{Part, labelled_part, line_read}
use Rattle.trace_words.specs.Rows.{Word, Row}
use Rattle.trace_words.specs.declared.fault.RowFault.{RowFault}
use Rattle.trace_words.specs.declared.fault.RowFault.TheVariants.{Wrong}

-- The laws of a line. A line that is read as a value is the line of that value; the line of a value
-- that fits is read as it, is made of words that a line can hold, and is not too long.
pub record IsLine {A : Type 0} (value_from : Row → Result A RowFault) (row_of : A → Row)
    (Fits : A → Type 0) : Type 0 where
  pub back : IsRowBack A value_from row_of
  pub again : (a : A) → Fits a → value_from (row_of a) ≡ Ok a
  pub are_words : (a : A) → Fits a → is_row (row_of a) ≡ true
  pub short : (a : A) → Fits a → IsShort (row_of a)

pub labelled_exact : {A : Type 0} {MayFollow : Row → Type 0} {most : ℕ} (name : Word)
    (part : Part A) → is_word name ≡ true → length name ≤ 20 → IsExact MayFollow most part
    → IsExact MayFollow (1 + 20 + most) (labelled_part name part)
labelled_exact {most = most} name part is long exact = record {
  back = λ row x e.
      let others = bind_ok (words_after name row) (λ others. part.read others.1) x e in
      behind_back name row others.0.0 others.0.1 others.1
      ∙ ap (λ (words : Row). name ∷ words) (exact.back others.0.1 x others.2);
  again = λ a rest fit follows.
      rw (behind_again name (part.text a ++ rest), exact.again a rest fit follows) refl;
  are_words = λ a fit. more name (part.text a) is (exact.are_words a fit);
  short = λ a fit. word_on 20 most name (part.text a) long (exact.short a fit);
}

pub part_line : {A : Type 0} {most : ℕ} (name : Word) (part : Part A) → is_word name ≡ true
    → length name ≤ 20 → most ≤ 19979 → IsExact Nothing most part
    → IsLine (line_read (labelled_part name part)) (labelled_part name part).text part.Fits
part_line {most = most} name part is long le exact =
    let line = labelled_exact name part is long exact in
    record {
      back = λ row a e. sym (line_back (labelled_part name part) line row a e);
      again = λ a fit. line_again (labelled_part name part) line a fit;
      are_words = λ a fit. line.are_words a fit;
      short = λ a fit.
          words_in (1 + 20 + most) 20000 (name ∷ part.text a) (line.short a fit)
          (omega (arith, le));
    }

-- the value of a line that passes a test
abbrev pub tested : {A : Type 0} → (A → Bool) → (Row → Result A RowFault) → Row
    → Result A RowFault
tested test value_from row = value_from row >>= λ a. guard (test a) Wrong >> Ok a

pub tested_line : {A : Type 0} (test : A → Bool) (value_from : Row → Result A RowFault)
    (row_of : A → Row) (Fits : A → Type 0) → IsLine value_from row_of Fits
    → IsLine (tested test value_from) row_of (λ a. Fits a × (test a ≡ true))
tested_line test value_from row_of Fits line = record {
  back = λ row a e.
      let read = bind_ok (value_from row) (λ b. guard (test b) Wrong >> Ok b) a e in
      let passed = guard_ok (test read.0) Wrong (Ok read.0) a read.2 in
      line.back row read.0 read.1 ∙ ap row_of (ok_is read.0 a passed.1);
  again = λ a fit. rw (line.again a fit.0, fit.1) refl;
  are_words = λ a fit. line.are_words a fit.0;
  short = λ a fit. line.short a fit.0;
}
