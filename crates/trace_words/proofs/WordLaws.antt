-- A word that is written is read back, and can be a word of a line.
use Rattle.std.proofs.Common.{◌≡◌, ℕ, ◌<◌, ◌≤◌, ◌^◌, Bool, true, false, nat_eq, List, [], ◌∷◌, length, Option, Ok, refl, sym, ap, ◌∙◌, arith, decimal, append-nil, Result}
use Rattle.std.specs.Cmp.Lexicographic.{pointwise, nat_list_eq_equiv}
use Rattle.hex.specs.Hex.{encode_upper, IsBytes}
use Rattle.cosem_axdr.proofs.Values.{text_again}
use Rattle.cosem_axdr.specs.Reading.{first_data}
use Rattle.cosem_axdr.specs.Spelling.{text}
use Rattle.cosem_axdr.specs.View.{tree_of}
use Rattle.cosem_axdr.specs.declared.value.Data.{Data}
use Rattle.text_lines.proofs.HexadecimalLemmas.{bytes_again, hex_is_word}
use Rattle.text_lines.proofs.NumbersLemmas.{number_again}
use Rattle.trace_words.proofs.TextBytes.{text_is_bytes}
use Rattle.trace_words.specs.Reading.{number_in, flag_in, bytes_in, data_in}
use Rattle.trace_words.specs.Rows.{Row, or_wrong, Word}
use Rattle.trace_words.specs.Writing.{IsHeld, flag_number, data_word}
use Rattle.std.specs.List.{list_all}
use Rattle.text_lines.specs.Lines.{is_row}
use Rattle.text_lines.specs.Words.{is_word}
use Rattle.text_lines.proofs.WordsLemmas.{decimal_is_word}
use Rattle.trace_words.specs.Labels.{words_after, labelled_value, number_row}
use Rattle.trace_words.specs.declared.fault.RowFault.{RowFault}

pub number_word_again : (limit n : ℕ) → n ≤ limit → limit < 2 ^ 64
    → number_in limit (decimal n) ≡ Ok n
number_word_again limit n le small = ap (λ (o : Option ℕ). or_wrong o)
    (number_again limit n le small)

pub flag_again : (flag : Bool) → flag_in (decimal (flag_number flag)) ≡ Ok flag
flag_again true = let h = number_word_again 1 1 (omega arith) (omega arith) in rw h refl
flag_again false = let h = number_word_again 1 0 (omega arith) (omega arith) in rw h refl

pub bytes_word_again : (bytes : List ℕ) → 0 < length bytes → IsBytes bytes
    → bytes_in (encode_upper bytes) ≡ Ok bytes
bytes_word_again bytes some are = ap (λ (o : Option (List ℕ)). or_wrong o)
    (bytes_again bytes some are)

-- a list of bytes equals itself
pub same_bytes : (bytes : List ℕ) → pointwise nat_eq bytes bytes ≡ true
same_bytes bytes = nat_list_eq_equiv.refl bytes

pub data_word_again : (value : Data) → IsHeld value → data_in (data_word value) ≡ Ok value
unfolding data_in
data_word_again value held =
    let bytes = text (tree_of value) in
    let h = bytes_word_again bytes (omega arith) (text_is_bytes (tree_of value) held.fits) in
    let whole : first_data bytes ≡ Ok (value, length bytes) = ap first_data (sym (append-nil bytes))
    ∙ text_again value [] held.fits in
    let same = same_bytes bytes in
    rw (h, whole, same) refl

pub behind_again : (name : Word) (words : Row) → words_after name (name ∷ words) ≡ Ok (tt, words)
unfolding words_after
behind_again name words = let same = same_bytes name in rw same refl

pub labelled_again : {X : Type 0} (name : Word) (value_in : Word → Result X RowFault) (word : Word)
    (x : X) → value_in word ≡ Ok x → labelled_value name value_in (name ∷ word ∷ []) ≡ Ok x
labelled_again name value_in word x e =
    let first = behind_again name (word ∷ []) in
    rw (first, e) refl

-- ---- words that a line can hold

-- each of the words can be a word of a line
abbrev pub AreWords : Row → Type 0
AreWords words = list_all is_word words ≡ true

pub number_is_word : (n : ℕ) → n ≤ 42949672950 → is_word (decimal n) ≡ true
number_is_word n le = decimal_is_word n (omega arith)

pub flag_is_word : (flag : Bool) → is_word (decimal (flag_number flag)) ≡ true
flag_is_word true = number_is_word 1 (omega arith)
flag_is_word false = number_is_word 0 (omega arith)

pub data_is_word : (value : Data) → IsHeld value → is_word (data_word value) ≡ true
data_is_word value held = hex_is_word (text (tree_of value)) (omega arith)
    (text_is_bytes (tree_of value) held.fits)

-- one more word
pub more : (word : List ℕ) (words : Row) → is_word word ≡ true → AreWords words
    → AreWords (word ∷ words)
more word words is are = rw is are

pub number_is_row : (name : Word) (n : ℕ) → is_word name ≡ true → n ≤ 42949672950
    → is_row (number_row name n) ≡ true
number_is_row name n is le = more name (decimal n ∷ []) is
    (more (decimal n) [] (number_is_word n le) refl)
