-- Lines that are taken from a text one by one, and texts that are written line by line.
use Rattle.std.proofs.Common.{◌≡◌, ℕ, ◌<◌, true, List, [], ◌∷◌, ◌++◌, length, map, Option, Some, None, MatchOption, refl, sym, ap, ◌∙◌, arith}
use Rattle.std.specs.Borrow.{Bor}
use Rattle.text_lines.specs.Parts.{parts_at}
use Rattle.text_lines.specs.Lines.{all_but_last, last_of, lines_of, unended_of, text_of, rows_of, rows_text, is_row}
use Rattle.text_lines.proofs.Cuts.{is_byte, parts_some}
use Rattle.text_lines.specs.Words.{words_of, line_of}
use Rattle.text_lines.proofs.WordsLemmas.{HasNo, words_again, line_of-words_of, row_has_no_end}
use Rattle.std.specs.List.{list_all, join_with_byte}
use Rattle.std.proofs.lemmas.Bool.{and_parts}
use Rattle.std.proofs.lemmas.List.{append_assoc, append-nil}
use Rattle.std.proofs.lemmas.List.Splits.{slice_split_at, join_with_byte-slice_split}

-- if parts follow it, a part is not the last
pub all_but_last-cons : (part : List ℕ) (parts : List (List ℕ)) → 0 < length parts
    → all_but_last (part ∷ parts) ≡ part ∷ all_but_last parts
all_but_last-cons part [] some = absurd (omega arith)
all_but_last-cons part (next ∷ parts) some = refl

pub last_of-cons : (part : List ℕ) (parts : List (List ℕ)) → 0 < length parts
    → last_of (part ∷ parts) ≡ last_of parts
last_of-cons part [] some = absurd (omega arith)
last_of-cons part (next ∷ parts) some = refl

-- the lines of a text that is cut at its first byte 0A
lines_whole : (text : List ℕ) → parts_at 10 text ≡ text ∷ [] → lines_of text ≡ []
unfolding lines_of
lines_whole text e = ap all_but_last e

unended_whole : (text : List ℕ) → parts_at 10 text ≡ text ∷ [] → unended_of text ≡ text
unfolding unended_of
unended_whole text e = ap last_of e

lines_cut : (text line rest : List ℕ) → parts_at 10 text ≡ line ∷ parts_at 10 rest → lines_of text
    ≡ line ∷ lines_of rest
unfolding lines_of
lines_cut text line rest e = ap all_but_last e
    ∙ all_but_last-cons line (parts_at 10 rest) (parts_some 10 rest)

unended_cut : (text line rest : List ℕ) → parts_at 10 text ≡ line ∷ parts_at 10 rest
    → unended_of text ≡ unended_of rest
unfolding unended_of
unended_cut text line rest e = ap last_of e ∙ last_of-cons line (parts_at 10 rest)
    (parts_some 10 rest)

pub split_lines : (text : List ℕ) (r : Option (Bor (List ℕ) × Bor (List ℕ)))
    → MatchOption r (parts_at 10 text ≡ text ∷ []) (λ parts. parts_at 10 text ≡ parts.0.now
    ∷ parts_at 10 parts.1.now)
    → MatchOption r (lines_of text ≡ []) (λ parts. lines_of text ≡ parts.0.now
    ∷ lines_of parts.1.now)
split_lines text None e = lines_whole text e
split_lines text (Some parts) e = lines_cut text parts.0.now parts.1.now e

pub split_unended : (text : List ℕ) (r : Option (Bor (List ℕ) × Bor (List ℕ)))
    → MatchOption r (parts_at 10 text ≡ text ∷ []) (λ parts. parts_at 10 text ≡ parts.0.now
    ∷ parts_at 10 parts.1.now)
    → MatchOption r (unended_of text ≡ text) (λ parts. unended_of text ≡ unended_of parts.1.now)
split_unended text None e = unended_whole text e
split_unended text (Some parts) e = unended_cut text parts.0.now parts.1.now e

-- ---- texts that are written

-- the first line of a text
pub lines_of-line : (line rest : List ℕ) → HasNo 10 line → lines_of (line ++ 10 ∷ rest) ≡ line
    ∷ lines_of rest
lines_of-line line rest none = lines_cut (line ++ 10 ∷ rest) line rest
    (slice_split_at (is_byte 10) line 10 rest none refl)

pub unended_of-line : (line rest : List ℕ) → HasNo 10 line → unended_of (line ++ 10 ∷ rest)
    ≡ unended_of rest
unended_of-line line rest none = unended_cut (line ++ 10 ∷ rest) line rest
    (slice_split_at (is_byte 10) line 10 rest none refl)

-- an empty text has no line
pub lines_of-nil : lines_of [] ≡ []
unfolding lines_of
lines_of-nil = refl

pub unended_of-nil : unended_of [] ≡ []
unfolding unended_of
unended_of-nil = refl

-- each text is the text of its lines, followed by the text after them
parts_text : (part : List ℕ) (parts : List (List ℕ)) → join_with_byte 10 (part ∷ parts)
    ≡ text_of (all_but_last (part ∷ parts)) ++ last_of (part ∷ parts)
unfolding text_of
parts_text part [] = refl
parts_text part (next ∷ parts) =
    ap (λ (rest : List ℕ). part ++ 10 ∷ rest) (parts_text next parts)
    ∙ sym (append_assoc part (10 ∷ text_of (all_but_last (next ∷ parts))) (last_of (next ∷ parts)))

joined_text : (parts : List (List ℕ)) → 0 < length parts → join_with_byte 10 parts
    ≡ text_of (all_but_last parts) ++ last_of parts
joined_text [] some = absurd (omega arith)
joined_text (part ∷ parts) some = parts_text part parts

pub text_of-lines_of : (text : List ℕ) → text_of (lines_of text) ++ unended_of text ≡ text
unfolding lines_of unended_of
text_of-lines_of text = sym (joined_text (parts_at 10 text) (parts_some 10 text))
    ∙ join_with_byte-slice_split 10 text

-- ---- lines of words

-- the text of lines with one more in front
pub rows_text-cons : (row : List (List ℕ)) (rows : List (List (List ℕ))) → rows_text (row ∷ rows)
    ≡ line_of row ++ 10 ∷ rows_text rows
unfolding rows_text text_of
rows_text-cons row rows = refl

pub rows_text-nil : rows_text [] ≡ []
unfolding rows_text text_of
rows_text-nil = refl

-- the text of lines followed by others
pub rows_text-append : (rows others : List (List (List ℕ))) → rows_text (rows ++ others)
    ≡ rows_text rows ++ rows_text others
rows_text-append [] others = rw rows_text-nil refl
rows_text-append (row ∷ rows) others =
    rows_text-cons row (rows ++ others)
    ∙ ap (λ (rest : List ℕ). line_of row ++ 10 ∷ rest) (rows_text-append rows others)
    ∙ sym (append_assoc (line_of row) (10 ∷ rows_text rows) (rows_text others))
    ∙ ap (λ (front : List ℕ). front ++ rows_text others) (sym (rows_text-cons row rows))

-- the text of one line
pub rows_text-one : (row : List (List ℕ)) → rows_text (row ∷ []) ≡ line_of row ++ 10 ∷ []
rows_text-one row = rows_text-cons row [] ∙ ap (λ (rest : List ℕ). line_of row ++ 10
    ∷ rest) rows_text-nil

-- the words of the first line
rows_of-line : (line rest : List ℕ) → HasNo 10 line → rows_of (line ++ 10 ∷ rest) ≡ words_of line
    ∷ rows_of rest
unfolding rows_of
rows_of-line line rest none = ap (map words_of) (lines_of-line line rest none)

-- a text from which a line is taken, and one without a line
pub rows_of-taken : (text line rest : List ℕ) → lines_of text ≡ line ∷ lines_of rest → rows_of text
    ≡ words_of line ∷ rows_of rest
unfolding rows_of
rows_of-taken text line rest e = ap (map words_of) e

pub rows_of-none : (text : List ℕ) → lines_of text ≡ [] → rows_of text ≡ []
unfolding rows_of
rows_of-none text e = ap (map words_of) e

-- lines of words that are written are read back, whatever follows them
pub rows_again : (rows : List (List (List ℕ))) (rest : List ℕ) → list_all is_row rows ≡ true
    → rows_of (rows_text rows ++ rest) ≡ rows ++ rows_of rest
rows_again [] rest all = rw rows_text-nil refl
rows_again (row ∷ rows) rest all =
    let both = and_parts (is_row row) (list_all is_row rows) all in
    ap (λ (text : List ℕ). rows_of (text ++ rest)) (rows_text-cons row rows)
    ∙ ap rows_of (append_assoc (line_of row) (10 ∷ rows_text rows) rest)
    ∙ rows_of-line (line_of row) (rows_text rows ++ rest) (row_has_no_end row both.0)
    ∙ ap (λ (words : List (List ℕ)). words ∷ rows_of (rows_text rows ++ rest))
    (words_again row both.0)
    ∙ ap (λ (others : List (List (List ℕ))). row ∷ others) (rows_again rows rest both.1)

pub unended_again : (rows : List (List (List ℕ))) (rest : List ℕ) → list_all is_row rows ≡ true
    → unended_of (rows_text rows ++ rest) ≡ unended_of rest
unended_again [] rest all = rw rows_text-nil refl
unended_again (row ∷ rows) rest all =
    let both = and_parts (is_row row) (list_all is_row rows) all in
    ap (λ (text : List ℕ). unended_of (text ++ rest)) (rows_text-cons row rows)
    ∙ ap unended_of (append_assoc (line_of row) (10 ∷ rows_text rows) rest)
    ∙ unended_of-line (line_of row) (rows_text rows ++ rest) (row_has_no_end row both.0)
    ∙ unended_again rows rest both.1

-- in a text of lines alone nothing follows the last line
pub rows_of-rows_text : (rows : List (List (List ℕ))) → list_all is_row rows ≡ true
    → (rows_of (rows_text rows) ≡ rows) × (unended_of (rows_text rows) ≡ [])
rows_of-rows_text rows all = (
  ap rows_of (sym (append-nil (rows_text rows))) ∙ rows_again rows [] all
      ∙ ap (λ (rest : List (List (List ℕ))). rows ++ rest) (rows_of-none [] lines_of-nil)
      ∙ append-nil rows,
  ap unended_of (sym (append-nil (rows_text rows))) ∙ unended_again rows [] all ∙ unended_of-nil,
)

-- the lines of the words of lines
lines_of_words : (lines : List (List ℕ)) → map line_of (map words_of lines) ≡ lines
lines_of_words [] = refl
lines_of_words (line ∷ lines) = rw (line_of-words_of line, lines_of_words lines) refl

-- each text is the text of its lines of words, followed by the text after them
pub rows_text-rows_of : (text : List ℕ) → rows_text (rows_of text) ++ unended_of text ≡ text
unfolding rows_text rows_of
rows_text-rows_of text = ap (λ (lines : List (List ℕ)). text_of lines ++ unended_of text)
    (lines_of_words (lines_of text)) ∙ text_of-lines_of text
