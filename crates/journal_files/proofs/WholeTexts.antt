-- The whole lines of a file's bytes are those of the text that they are read as.
use Rattle.std.proofs.Common.{◌≡◌, ◌≢◌, ℕ, ◌<◌, Bool, true, false, List, [], ◌∷◌, ◌++◌, length, map}
use Rattle.std.proofs.Common.{refl, sym, ap, ◌∙◌, arith, append_assoc, append-nil}
use Rattle.std.proofs.lemmas.Bool.{ne_eqb}
use Rattle.std.proofs.lemmas.List.Folds.{list_any-append}
use Rattle.std.proofs.lemmas.List.Splits.{slice_split-cons_no}
use Rattle.std.specs.List.{onto_first}
use Rattle.std.specs.Prelude.{◌==◌, ◌||◌, if◌then◌else◌}
use Rattle.durable_lines.specs.Lines.{lines_after, lines_in, text_of, IsText}
use Rattle.durable_lines.proofs.LineLemmas.{Zero, End, Other, first_byte, lines_end, lines_more}
use Rattle.durable_lines.proofs.LineLemmas.{lines_zero}
use Rattle.text_lines.specs.Lines.{all_but_last, lines_of, rows_of, rows_text}
use Rattle.text_lines.specs.Parts.{parts_at}
use Rattle.text_lines.specs.Words.{line_of, words_of}
use Rattle.text_lines.proofs.Cuts.{parts_some}
use Rattle.text_lines.proofs.LinesLemmas.{all_but_last-cons}
use Rattle.text_lines.proofs.WordsLemmas.{line_of-words_of}
use Rattle.trace_words.specs.WholeLines.{before_zero, has_zero, whole_text}

abbrev Lines : Type 0
Lines = List (List ℕ)

-- the lines before the first one that has a byte 0
abbrev lines_before : Lines → Lines
lines_before [] = []
lines_before (line ∷ lines) = if has_zero line then [] else line ∷ lines_before lines

-- bytes that stand before the first part
abbrev before_first : List ℕ → Lines → Lines
before_first begun [] = []
before_first begun (part ∷ parts) = (begun ++ part) ∷ parts

none_before : (parts : Lines) → before_first [] parts ≡ parts
none_before [] = refl
none_before (part ∷ parts) = refl

-- one more byte stands before the first part
one_before : (begun : List ℕ) (byte : ℕ) (parts : Lines) → 0 < length parts
    → before_first (begun ++ byte ∷ []) parts ≡ before_first begun (onto_first byte parts)
one_before begun byte [] some = absurd (omega (arith, some))
one_before begun byte (part ∷ parts) some =
    ap (λ (line : List ℕ). line ∷ parts) (append_assoc begun (byte ∷ []) part)

-- a line with a byte 0 ends the lines
stops : (line : List ℕ) (parts : Lines) → has_zero line ≡ true
    → lines_before (all_but_last (line ∷ parts)) ≡ []
stops line [] zero = refl
stops line (part ∷ parts) zero = rw zero refl

-- a line without one is followed by the lines of the rest
goes : (line : List ℕ) (parts : Lines) → 0 < length parts → has_zero line ≡ false
    → lines_before (all_but_last (line ∷ parts)) ≡ line ∷ lines_before (all_but_last parts)
goes line parts some none =
    ap lines_before (all_but_last-cons line parts some) ∙ by (has_zero line) none
  where
    by : (zero : Bool) → zero ≡ false
        → (if zero then [] else line ∷ lines_before (all_but_last parts))
        ≡ line ∷ lines_before (all_but_last parts)
    by zero none = rw none refl

zero_in : (begun part : List ℕ) → has_zero (begun ++ 0 ∷ part) ≡ true
zero_in [] part = refl
zero_in (byte ∷ begun) part = by (byte == 0) (zero_in begun part)
  where
    by : (is : Bool) → has_zero (begun ++ 0 ∷ part) ≡ true
        → (is || has_zero (begun ++ 0 ∷ part)) ≡ true
    by true others = refl
    by false others = others

stops_at : (begun : List ℕ) (parts : Lines)
    → lines_before (all_but_last (before_first begun (onto_first 0 parts))) ≡ []
stops_at begun [] = refl
stops_at begun (part ∷ parts) = stops (begun ++ 0 ∷ part) parts (zero_in begun part)

none_more : (begun : List ℕ) (byte : ℕ) → byte ≢ 0 → has_zero begun ≡ false
    → has_zero (begun ++ byte ∷ []) ≡ false
none_more begun byte not none =
    list_any-append (λ b. b == 0) begun (byte ∷ [])
    ∙ rw none (rw (ne_eqb byte 0 not) refl)

-- the parts of a text that begins with a byte 0A, or with another
cut_parts : (rest : List ℕ) → parts_at 10 (10 ∷ rest) ≡ [] ∷ parts_at 10 rest
cut_parts rest = refl

other_parts : (byte : ℕ) (rest : List ℕ) → byte ≢ 10
    → parts_at 10 (byte ∷ rest) ≡ onto_first byte (parts_at 10 rest)
other_parts byte rest not = slice_split-cons_no (λ b. b == 10) byte rest (ne_eqb byte 10 not)

read_lines : (begun text : List ℕ) → has_zero begun ≡ false
    → lines_after begun text ≡ lines_before (all_but_last (before_first begun (parts_at 10 text)))
read_lines begun [] none = refl
read_lines begun (byte ∷ text) none =
    let parts = parts_at 10 text in
    elim (first_byte byte) [
      | Zero is ↦
          lines_zero begun byte text is
          ∙ sym (ap (λ b. lines_before (all_but_last (before_first begun (parts_at 10 (b ∷ text)))))
          is ∙ stops_at begun parts)
      | End is ↦
          lines_end begun byte text is
          ∙ ap (λ (ls : Lines). begun ∷ ls) (read_lines [] text refl
          ∙ ap (λ (ps : Lines). lines_before (all_but_last ps)) (none_before parts))
          ∙ sym (ap (λ b. lines_before (all_but_last (before_first begun (parts_at 10 (b ∷ text)))))
          is
          ∙ ap (λ (line : List ℕ). lines_before (all_but_last (line ∷ parts))) (append-nil begun)
          ∙ goes begun parts (parts_some 10 text) none)
      | Other not0 not10 ↦
          lines_more begun byte text not0 not10
          ∙ read_lines (begun ++ byte ∷ []) text (none_more begun byte not0 none)
          ∙ ap (λ (ps : Lines). lines_before (all_but_last ps))
          (one_before begun byte parts (parts_some 10 text)
          ∙ ap (before_first begun) (sym (other_parts byte text not10)))
    ]

-- the lines before a byte 0, as lines and as their words
kept_line : (line : List ℕ) (lines : Lines) (zero : Bool)
    → map line_of (before_zero (map words_of lines)) ≡ lines_before lines
    → map line_of (if zero then [] else words_of line ∷ before_zero (map words_of lines))
    ≡ (if zero then [] else line ∷ lines_before lines)
kept_line line lines true others = refl
kept_line line lines false others =
    ap (λ (l : List ℕ). l ∷ map line_of (before_zero (map words_of lines))) (line_of-words_of line)
    ∙ ap (λ (ls : Lines). line ∷ ls) others

kept_lines : (lines : Lines)
    → map line_of (before_zero (map words_of lines)) ≡ lines_before lines
kept_lines [] = refl
kept_lines (line ∷ lines) =
    ap (λ (l : List ℕ). map line_of (if has_zero l then [] else words_of line
    ∷ before_zero (map words_of lines))) (line_of-words_of line)
    ∙ kept_line line lines (has_zero line) (kept_lines lines)

-- the text of the whole lines of bytes is their whole text
pub whole_text-lines_in : (bytes : List ℕ) → whole_text bytes ≡ text_of (lines_in bytes)
unfolding lines_of rows_of rows_text
whole_text-lines_in bytes =
    ap text_of (kept_lines (lines_of bytes)
    ∙ ap (λ (ps : Lines). lines_before (all_but_last ps)) (sym (none_before (parts_at 10 bytes)))
    ∙ sym (read_lines [] bytes refl))

-- a text of whole lines is its whole text
pub whole_text-text : (bytes : List ℕ) → IsText bytes → whole_text bytes ≡ bytes
whole_text-text bytes text = whole_text-lines_in bytes ∙ sym text
