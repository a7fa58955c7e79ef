-- Words that were read are written back as the same words.
use Rattle.std.proofs.Common.{◌≡◌, ℕ, zero, suc, ◌<◌, ◌≤◌, ◌^◌, Bool, true, false, nat_eq, ◌==◌, List, [], ◌∷◌, Option, Some, None, Result, Ok, refl, sym, ap, ◌∙◌, arith, decimal}
use Rattle.std.proofs.lemmas.Bool.Decides.{nat_tests, Decides-eqb}
use Rattle.std.proofs.lemmas.Slice.Eq.{slice_eq-Decides}
use Rattle.std.specs.Cmp.Lexicographic.{pointwise}
use Rattle.std.specs.Result.{result_ok}
use Rattle.wire_bytes.proofs.OutcomeLemmas.{done, ok_is, bind_ok, guard_ok}
use Rattle.hex.specs.Hex.{encode_upper, IsBytes}
use Rattle.cosem_axdr.specs.Reading.{first_data}
use Rattle.cosem_axdr.specs.Spelling.{text}
use Rattle.cosem_axdr.specs.View.{tree_of}
use Rattle.cosem_axdr.specs.declared.value.Data.{Data}
use Rattle.text_lines.specs.Hexadecimal.{bytes_of}
use Rattle.text_lines.specs.Numbers.{number_of}
use Rattle.text_lines.proofs.HexadecimalLemmas.{bytes_only}
use Rattle.text_lines.proofs.NumbersLemmas.{number_only}
use Rattle.trace_words.specs.Reading.{number_in, flag_in, bytes_in, data_in, next_as, last_as}
use Rattle.trace_words.specs.Rows.{Word, Row, Read, or_wrong, if_last, all_at}
use Rattle.trace_words.specs.Writing.{flag_number, data_word, all_words}
use Rattle.trace_words.specs.declared.fault.RowFault.{RowFault}
use Rattle.trace_words.specs.declared.fault.RowFault.TheVariants.{Wrong}

pub wanted_is : {X : Type 0} (found : Option X) (x : X) → or_wrong found ≡ Ok x → found ≡ Some x
wanted_is (Some y) x e = cc
wanted_is None x e = absurd cc

-- each word from which a value is read is the word that is written for it
abbrev pub IsWrittenBack : (X : Type 0) → (Word → Result X RowFault) → (X → Word) → Type 0
IsWrittenBack X value_in word_of = (word : Word) (x : X) → value_in word ≡ Ok x → word ≡ word_of x

-- the words from which a value of several words is read, before others, are those written for it
abbrev pub AreWrittenBack : (X : Type 0) → (Word → Row → Read X) → (X → Row → Row) → Type 0
AreWrittenBack X item_from words_of = (word : Word) (words : Row) (x : X) (rest : Row)
    → item_from word words ≡ Ok (x, rest) → word ∷ words ≡ words_of x rest

-- ---- single words

pub number_back : (limit : ℕ) → limit < 2 ^ 64 → IsWrittenBack ℕ (number_in limit) decimal
number_back limit small word n e =
    (number_only limit n word small (wanted_is (number_of limit word) n e)).0

pub number_limited : (limit : ℕ) → limit < 2 ^ 64 → (word : Word) (n : ℕ) → number_in limit word
    ≡ Ok n → n ≤ limit
number_limited limit small word n e =
    (number_only limit n word small (wanted_is (number_of limit word) n e)).1

flag_is : (n : ℕ) (flag : Bool) → n ≤ 1 → done RowFault (n == 1) ≡ Ok flag → n ≡ flag_number flag
flag_is n true le e = let is : (n == 1) ≡ true = cc in grind (arith, nat_tests)
flag_is n false le e = let is : (n == 1) ≡ false = cc in grind (arith, nat_tests)

pub flag_back : IsWrittenBack Bool flag_in (λ flag. decimal (flag_number flag))
flag_back word flag e =
    let read = bind_ok (number_in 1 word) _ flag e in
    number_back 1 (omega arith) word read.0 read.1
    ∙ ap decimal (flag_is read.0 flag (number_limited 1 (omega arith) word read.0
    read.1) read.2)

pub bytes_back : IsWrittenBack (List ℕ) bytes_in encode_upper
bytes_back word bytes e = (bytes_only word bytes (wanted_is (bytes_of word) bytes e)).0

pub bytes_are : (word : Word) (bytes : List ℕ) → bytes_in word ≡ Ok bytes → IsBytes bytes
bytes_are word bytes e = (bytes_only word bytes (wanted_is (bytes_of word) bytes e)).1

-- two lists that pass the test are equal
pub same_is : (one other : List ℕ) → pointwise nat_eq one other ≡ true → one ≡ other
same_is one other e = (slice_eq-Decides Decides-eqb one other (pointwise nat_eq one other) refl).0 e

pub data_back : IsWrittenBack Data data_in data_word
unfolding data_in
data_back word value e =
    let bytes = bind_ok (bytes_in word) _ value e in
    let read = bind_ok (or_wrong (result_ok (first_data bytes.0))) _ value bytes.2 in
    let spelled = guard_ok (pointwise nat_eq (text (tree_of read.0.0)) bytes.0) Wrong _ value read.2
    in
    bytes_back word bytes.0 bytes.1
    ∙ ap encode_upper (sym (same_is (text (tree_of read.0.0)) bytes.0 spelled.0))
    ∙ ap data_word (ok_is read.0.0 value spelled.1)

-- ---- words in a row

pub next_back : (X : Type 0) (value_in : Word → Result X RowFault) (word_of : X → Word)
    → IsWrittenBack X value_in word_of
    → (words rest : Row) (x : X) → next_as value_in words ≡ Ok (x, rest) → words ≡ word_of x ∷ rest
next_back X value_in word_of back [] rest x e = absurd cc
next_back X value_in word_of back (word ∷ words) rest x e =
    let read = bind_ok (value_in word) _ (x, rest) e in
    ap (λ (w : Word). w ∷ words) (back word read.0 read.1)
    ∙ ap (λ (p : X × Row). word_of p.0 ∷ p.1) (ok_is (read.0, words) (x, rest) read.2)

pub next_number_back : (limit : ℕ) → limit < 2 ^ 64 → (words rest : Row) (n : ℕ)
    → next_as (number_in limit) words ≡ Ok (n, rest) → words ≡ decimal n ∷ rest
next_number_back limit small words rest n e =
    next_back ℕ (number_in limit) decimal (number_back limit small) words rest n e

-- a value after which no word is left
pub ended_back : (X : Type 0) (words : Row) (x y : X) → if_last words x ≡ Ok y
    → (words ≡ []) × (x ≡ y)
ended_back X [] x y e = (refl, ok_is x y e)
ended_back X (word ∷ words) x y e = absurd cc

-- the last word, and the value that is read from it
pub last_read : (X : Type 0) (value_in : Word → Result X RowFault) (words : Row) (x : X)
    → last_as value_in words ≡ Ok x → (word : Word) × (words ≡ word ∷ []) × (value_in word ≡ Ok x)
last_read X value_in [] x e = absurd cc
last_read X value_in (word ∷ []) x e = (word, refl, e)
last_read X value_in (word ∷ other ∷ words) x e = absurd cc

pub last_back : (X : Type 0) (value_in : Word → Result X RowFault) (word_of : X → Word)
    → IsWrittenBack X value_in word_of
    → (words : Row) (x : X) → last_as value_in words ≡ Ok x → words ≡ word_of x ∷ []
last_back X value_in word_of back words x e =
    let read = last_read X value_in words x e in
    read.1 ∙ ap (λ (w : Word). w ∷ []) (back read.0 x read.2)

pub last_number_back : (limit : ℕ) → limit < 2 ^ 64 → (words : Row) (n : ℕ)
    → last_as (number_in limit) words ≡ Ok n → words ≡ decimal n ∷ []
last_number_back limit small words n e = last_back ℕ (number_in limit) decimal
    (number_back limit small) words n e

-- values up to the end of the line
pub all_back : (X : Type 0) (item_from : Word → Row → Read X) (words_of : X → Row → Row)
    → AreWrittenBack X item_from words_of
    → (room : ℕ) (words : Row) (xs : List X) → all_at item_from room words ≡ Ok xs → words
    ≡ all_words words_of xs
unfolding all_at all_words
all_back X item_from words_of back zero [] xs e = ap (all_words words_of) (ok_is [] xs e)
all_back X item_from words_of back (suc room) [] xs e = ap (all_words words_of) (ok_is [] xs e)
all_back X item_from words_of back zero (word ∷ words) xs e = absurd cc
all_back X item_from words_of back (suc room) (word ∷ words) xs e =
    let first = bind_ok (item_from word words) _ xs e in
    let others = bind_ok (all_at item_from room first.0.1) _ xs first.2 in
    back word words first.0.0 first.0.1 first.1
    ∙ ap (words_of first.0.0) (all_back X item_from words_of back room first.0.1 others.0 others.1)
    ∙ ap (all_words words_of) (ok_is (first.0.0 ∷ others.0) xs others.2)
