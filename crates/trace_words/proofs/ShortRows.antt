-- Bounds on the length of words and of lines.
use Rattle.std.proofs.Common.{◌≡◌, ℕ, ◌+◌, ◌*◌, ◌≤◌, Bool, true, false, List, [], ◌∷◌, ◌++◌, decimal, length, map, ap, arith, length-append}
use Rattle.std.proofs.lemmas.Fmt.{length-decimal-le}
use Rattle.hex.proofs.HexLemmas.{length-encode_with}
use Rattle.hex.specs.Hex.{encode_upper, upper_digits}
use Rattle.cosem_axdr.specs.Spelling.{text}
use Rattle.cosem_axdr.specs.View.{tree_of}
use Rattle.cosem_axdr.specs.declared.value.Data.{Data}
use Rattle.text_lines.specs.Lines.{rows_text, text_of}
use Rattle.text_lines.specs.Words.{line_of}
use Rattle.trace_words.proofs.Blanks.{line_of_first}
use Rattle.trace_words.specs.Labels.{number_row}
use Rattle.trace_words.specs.Rows.{Word, Row}
use Rattle.trace_words.specs.Writing.{IsHeld, words_after_blanks, data_word, flag_number}

-- ---- words

-- words of at most this many bytes, with a blank before each
pub record HasWords (most : ℕ) (row : Row) : Type 0 where
  pub short : length (words_after_blanks row) ≤ most

pub no_words : HasWords 0 []
no_words = record { short = omega arith }

pub word_on : (long most : ℕ) (word : Word) (words : Row) → length word ≤ long → HasWords most words
    → HasWords (1 + long + most) (word ∷ words)
word_on long most word words one others = record {
  short = omega (
    arith,
    one,
    others.short,
    length-append (32 ∷ word) (words_after_blanks words),
  );
}

pub words_in : (less most : ℕ) (row : Row) → HasWords less row → less ≤ most → HasWords most row
words_in less most row words le = record { short = omega (arith, words.short, le) }

-- ---- a word

-- a number of 32 bits has at most ten digits
pub number_short : (n : ℕ) → n ≤ 4294967295 → length (decimal n) ≤ 10
number_short n le = length-decimal-le 10 n (omega arith) (omega arith) (omega arith)

-- a run, up to the greatest one, has at most eleven digits
pub run_short : (n : ℕ) → n ≤ 42949672950 → length (decimal n) ≤ 11
run_short n le = length-decimal-le 11 n (omega arith) (omega arith) (omega arith)

pub bytes_short : (bytes : List ℕ) (most : ℕ) → length bytes ≤ most
    → length (encode_upper bytes) ≤ 2 * most
bytes_short bytes most le = omega (arith, length-encode_with upper_digits bytes, le)

pub flag_short : (flag : Bool) → length (decimal (flag_number flag)) ≤ 10
flag_short true = number_short 1 (omega arith)
flag_short false = number_short 0 (omega arith)

pub data_short : (value : Data) → IsHeld value → length (data_word value) ≤ 16384
data_short value held = bytes_short (text (tree_of value)) 8192 held.fits.short

-- ---- lines

-- a line of at most 20,000 bytes, with a blank counted for each word
abbrev pub IsShort : Row → Type 0
IsShort row = HasWords 20000 row

abbrev pub AreShort : List Row → Type 0
AreShort [] = Unit {0}
AreShort (row ∷ rows) = IsShort row × AreShort rows

pub both_short : (rows others : List Row) → AreShort rows → AreShort others
    → AreShort (rows ++ others)
both_short [] others first then = then
both_short (row ∷ rows) others (one, first) then = (one, both_short rows others first then)

-- a line of a first word and a number
pub number_row_short : (name : Word) (n : ℕ) → length name ≤ 20 → n ≤ 4294967295
    → IsShort (number_row name n)
number_row_short name n long le =
    words_in (1 + 20 + (1 + 10 + 0)) 20000 (number_row name n)
    (word_on 20 (1 + 10 + 0) name (decimal n ∷ []) long
    (word_on 10 0 (decimal n) [] (number_short n le) no_words)) (omega arith)

line_short : (row : Row) → IsShort row → length (line_of row) ≤ 20000
unfolding line_of
line_short [] short = omega arith
line_short (word ∷ words) short =
    let line : length (line_of (word ∷ words)) ≡ length (word ++ words_after_blanks words) =
    ap (λ (bytes : List ℕ). length bytes) (line_of_first word words) in
    omega (
      arith,
      line,
      short.short,
      length-append word (words_after_blanks words),
      length-append (32 ∷ word) (words_after_blanks words),
    )

pub text_short : (rows : List Row) → AreShort rows → length (rows_text rows) ≤ 20001 * length rows
unfolding rows_text text_of
text_short [] are = omega arith
text_short (row ∷ rows) (one, are) =
    let rest = text_of (map line_of rows) in
    omega (arith, line_short row one, text_short rows are, length-append (line_of row) (10 ∷ rest))
