-- Words of a line: words that are written are read back, and which bytes are words.
use Rattle.std.proofs.Common.{◌≡◌, ℕ, ◌<◌, ◌^◌, Bool, true, false, ◌&&◌, nat_lt, List, [], ◌∷◌, ◌++◌, length, All, decimal, refl, sym, ap, ◌∙◌, arith}
use Rattle.std.specs.Char.{is_ascii_digit}
use Rattle.std.specs.List.{list_all, join_with_byte}
use Rattle.std.proofs.lemmas.Bool.{and_parts}
use Rattle.std.proofs.lemmas.Bool.Decides.{nat_tests}
use Rattle.std.proofs.lemmas.Fmt.{decimal_nonempty}
use Rattle.std.proofs.lemmas.List.{append_assoc}
use Rattle.std.proofs.lemmas.List.Elements.{All-nil, All-cons, All-append}
use Rattle.std.proofs.lemmas.List.Splits.{slice_split_none, slice_split_at, join_with_byte-slice_split}
use Rattle.text_lines.specs.Words.{words_of, line_of, is_word_byte, is_word}
use Rattle.text_lines.specs.Lines.{is_row}
use Rattle.text_lines.proofs.Cuts.{is_byte}
use Rattle.text_lines.proofs.NumbersLemmas.{is_decimal-decimal}

-- ---- tests of all bytes

-- bytes that pass a test pass every weaker test
pub list_all_less : (p q : ℕ → Bool) → ((b : ℕ) → p b ≡ true → q b ≡ true) → (bytes : List ℕ)
    → list_all p bytes ≡ true → list_all q bytes ≡ true
list_all_less p q less [] e = refl
list_all_less p q less (b ∷ bytes) e =
    let both = and_parts (p b) (list_all p bytes) e in
    rw (less b both.0, list_all_less p q less bytes both.1) refl

-- no byte equals this one
abbrev pub HasNo : ℕ → List ℕ → Type 0
HasNo byte bytes = All (λ b. is_byte byte b ≡ false) bytes

-- bytes without this byte pass a test that only this byte fails
has_no : (p : ℕ → Bool) (byte : ℕ) → ((b : ℕ) → p b ≡ true → is_byte byte b ≡ false)
    → (bytes : List ℕ) → list_all p bytes ≡ true → HasNo byte bytes
has_no p byte fails [] e = All-nil (λ b. is_byte byte b ≡ false)
has_no p byte fails (b ∷ bytes) e =
    let both = and_parts (p b) (list_all p bytes) e in
    All-cons (λ b. is_byte byte b ≡ false) b bytes (fails b both.0)
    (has_no p byte fails bytes both.1)

-- ---- words

no_blank_byte : (b : ℕ) → is_word_byte b ≡ true → is_byte 32 b ≡ false
no_blank_byte b e = grind (arith, nat_tests)

no_end_byte : (b : ℕ) → is_word_byte b ≡ true → is_byte 10 b ≡ false
no_end_byte b e = grind (arith, nat_tests)

word_bytes : (word : List ℕ) → is_word word ≡ true → list_all is_word_byte word ≡ true
word_bytes [] e = absurd (cc e)
word_bytes (b ∷ bytes) e = e

-- one or more bytes are a word if each may be in one
pub word_is : (word : List ℕ) → 0 < length word → list_all is_word_byte word ≡ true → is_word word
    ≡ true
word_is [] some e = absurd (omega arith)
word_is (b ∷ bytes) some e = e

word_has_no_blank : (word : List ℕ) → is_word word ≡ true → HasNo 32 word
word_has_no_blank word e = has_no is_word_byte 32 no_blank_byte word (word_bytes word e)

pub word_has_no_end : (word : List ℕ) → is_word word ≡ true → HasNo 10 word
word_has_no_end word e = has_no is_word_byte 10 no_end_byte word (word_bytes word e)

-- a number is a word
digit_is_word_byte : (b : ℕ) → is_ascii_digit b ≡ true → is_word_byte b ≡ true
digit_is_word_byte b e = grind (arith, nat_tests)

pub decimal_is_word : (n : ℕ) → n < 2 ^ 64 → is_word (decimal n) ≡ true
decimal_is_word n small =
    let front = (and_parts (nat_lt 0 (length (decimal n)) && list_all is_ascii_digit (decimal n)) _
    (is_decimal-decimal n small)).0 in
    let both = and_parts (nat_lt 0 (length (decimal n))) (list_all is_ascii_digit (decimal n)) front
    in
    word_is (decimal n) (decimal_nonempty n small)
    (list_all_less is_ascii_digit is_word_byte digit_is_word_byte (decimal n) both.1)

-- ---- lines

-- the words of a line that is written are read back
all_words_again : (word : List ℕ) (words : List (List ℕ)) → is_word word ≡ true
    → list_all is_word words ≡ true → words_of (line_of (word ∷ words)) ≡ word ∷ words
unfolding words_of line_of
all_words_again word [] e all = slice_split_none (is_byte 32) word (word_has_no_blank word e)
all_words_again word (next ∷ words) e all =
    let both = and_parts (is_word next) (list_all is_word words) all in
    slice_split_at (is_byte 32) word 32 (join_with_byte 32 (next ∷ words))
    (word_has_no_blank word e) refl
    ∙ ap (λ (rest : List (List ℕ)). word ∷ rest) (all_words_again next words both.0 both.1)

pub words_again : (words : List (List ℕ)) → is_row words ≡ true → words_of (line_of words) ≡ words
words_again [] e = absurd (cc e)
words_again (word ∷ words) e =
    let both = and_parts (is_word word) (list_all is_word words) e in
    all_words_again word words both.0 both.1

-- a line is the line of its words
pub line_of-words_of : (line : List ℕ) → line_of (words_of line) ≡ line
unfolding words_of line_of
line_of-words_of line = join_with_byte-slice_split 32 line

-- a line of words contains no end of a line
all_no_end : (word : List ℕ) (words : List (List ℕ)) → is_word word ≡ true → list_all is_word words
    ≡ true → HasNo 10 (line_of (word ∷ words))
unfolding line_of
all_no_end word [] e all = word_has_no_end word e
all_no_end word (next ∷ words) e all =
    let both = and_parts (is_word next) (list_all is_word words) all in
    All-append (λ b. is_byte 10 b ≡ false) word (32 ∷ join_with_byte 32 (next ∷ words))
    (word_has_no_end word e)
    (All-cons (λ b. is_byte 10 b ≡ false) 32 (join_with_byte 32 (next ∷ words)) refl
    (all_no_end next words both.0 both.1))

pub row_has_no_end : (words : List (List ℕ)) → is_row words ≡ true → HasNo 10 (line_of words)
row_has_no_end [] e = absurd (cc e)
row_has_no_end (word ∷ words) e =
    let both = and_parts (is_word word) (list_all is_word words) e in
    all_no_end word words both.0 both.1

-- one word more
pub line_of-push : (words : List (List ℕ)) (word : List ℕ) → 0 < length words
    → line_of (words ++ word ∷ []) ≡ line_of words ++ 32 ∷ word
unfolding line_of
line_of-push [] word some = absurd (omega arith)
line_of-push (first ∷ []) word some = refl
line_of-push (first ∷ next ∷ words) word some =
    let rest = line_of-push (next ∷ words) word (omega arith) in
    ap (λ (line : List ℕ). first ++ 32 ∷ line) rest
    ∙ sym (append_assoc first (32 ∷ join_with_byte 32 (next ∷ words)) (32 ∷ word))
