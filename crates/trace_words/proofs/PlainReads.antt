-- Words that are read have no byte 0.
use Rattle.std.proofs.Common.{◌≡◌, ℕ, zero, suc, Bool, true, false, ◌&&◌, nat_le, nat_lt}
use Rattle.std.proofs.Common.{List, [], ◌∷◌, length, Option, Some, None, Result, Ok, refl, sym, ap}
use Rattle.std.proofs.Common.{subst, if◌then◌else◌}
use Rattle.std.specs.Char.{is_ascii_digit}
use Rattle.std.specs.List.{list_all}
use Rattle.std.specs.Result.{result_ok}
use Rattle.std.specs.Str.Parse.{digits_value}
use Rattle.std.proofs.lemmas.Bool.{and_parts}
use Rattle.hex.specs.Hex.{decode_of}
use Rattle.wire_bytes.specs.Format.{iso, ◌&◌}
use Rattle.wire_bytes.specs.Outcome.{◌>>=◌}
use Rattle.wire_bytes.specs.Reading.{read_as}
use Rattle.wire_bytes.proofs.OutcomeLemmas.{bind_ok, done, ok_is}
use Rattle.text_lines.specs.Hexadecimal.{bytes_of, is_capital_digit, is_hexadecimal}
use Rattle.text_lines.specs.Numbers.{is_decimal, number_of}
use Rattle.text_lines.specs.Words.{line_of}
use Rattle.trace_words.proofs.LabelsBack.{behind_back, labelled_read}
use Rattle.trace_words.proofs.PlainWords.{ArePlain, capital_plain, digit_plain, plain_line}
use Rattle.trace_words.proofs.PlainWords.{test_plain}
use Rattle.trace_words.proofs.WordsBack.{ended_back}
use Rattle.trace_words.specs.Labels.{words_after, labelled_value}
use Rattle.trace_words.specs.Parts.{Part, after_first, items_to_end, labelled_part, line_read}
use Rattle.trace_words.specs.Parts.{word}
use Rattle.trace_words.specs.Reading.{bytes_in, data_in, number_in, next_as}
use Rattle.trace_words.specs.Rows.{Row, Word, all_at, if_last, or_wrong}
use Rattle.trace_words.specs.WholeLines.{has_zero}
use Rattle.trace_words.specs.declared.fault.RowFault.{RowFault}

-- ---- words

-- each word from which a value is read has no byte 0
abbrev pub IsPlainWord : {X : Type 0} → (Word → Result X RowFault) → Type 0
IsPlainWord {X} value_in = (word : Word) (x : X) → value_in word ≡ Ok x → has_zero word ≡ false

-- what is present passed its test
passed : {A : Type 0} (b : Bool) (o : Option A) (x : A)
    → or_wrong (if b then o else None) ≡ Ok x → b ≡ true
passed true o x e = refl
passed false o x e = absurd cc

pub number_in_plain : (limit : ℕ) → IsPlainWord (number_in limit)
unfolding number_of
number_in_plain limit word n e =
    let test = passed (is_decimal word && nat_le (digits_value 10 word) limit)
    (Some (digits_value 10 word)) n e in
    let decimal = (and_parts (is_decimal word) (nat_le (digits_value 10 word) limit) test).0 in
    let front = (and_parts (nat_lt 0 (length word) && list_all is_ascii_digit word) _ decimal).0 in
    let digits = (and_parts (nat_lt 0 (length word)) (list_all is_ascii_digit word) front).1 in
    test_plain is_ascii_digit digit_plain word digits

pub bytes_in_plain : IsPlainWord bytes_in
unfolding bytes_of
bytes_in_plain word bytes e =
    let test = passed (is_hexadecimal word) (result_ok (decode_of word)) bytes e in
    let digits = (and_parts (nat_lt 0 (length word)) (list_all is_capital_digit word) test).1 in
    test_plain is_capital_digit capital_plain word digits

-- a value that is made of one that is read
pub next_plain : {X Y : Type 0} (value_in : Word → Result X RowFault) (next : X → Result Y RowFault)
    → IsPlainWord value_in → IsPlainWord (λ (w : Word). value_in w >>= next)
next_plain value_in next plain word y e =
    let b = bind_ok (value_in word) next y e in plain word b.0 b.1

pub data_in_plain : IsPlainWord data_in
unfolding data_in
data_in_plain word value e =
    let b = bind_ok (bytes_in word) _ value e in bytes_in_plain word b.0 b.1

-- ---- the words of a line

-- each line from which a value is read has no byte 0
abbrev pub IsPlainRow : Row → Type 0
IsPlainRow row = has_zero (line_of row) ≡ false

abbrev pub ReadsPlain : {X : Type 0} → (Row → Result X RowFault) → Type 0
ReadsPlain {X} value_in = (row : Row) (x : X) → value_in row ≡ Ok x → IsPlainRow row

pub row_plain : (row : Row) → ArePlain row → IsPlainRow row
row_plain row plain = plain_line row plain

pub labelled_plain : {X : Type 0} (name : Word) (value_in : Word → Result X RowFault)
    → has_zero name ≡ false → IsPlainWord value_in → ReadsPlain (labelled_value name value_in)
labelled_plain {X = X} name value_in named plain row x e =
    let read = labelled_read X name value_in row x e in
    subst IsPlainRow (sym read.1)
    (row_plain (name ∷ read.0 ∷ []) (named, (plain read.0 x read.2, tt)))

-- the words that a part reads have no byte 0 if those after it have none
abbrev pub PartIsPlain : {A : Type 0} → Part A → Type 0
PartIsPlain {A} part = (row : Row) (x : A × Row) → part.read row ≡ Ok x → ArePlain x.1
    → ArePlain row

pub next_as_plain : {A : Type 0} (value_in : Word → Result A RowFault) → IsPlainWord value_in
    → (row : Row) (x : A × Row) → next_as value_in row ≡ Ok x → ArePlain x.1 → ArePlain row
next_as_plain value_in plain [] x e left = absurd cc
next_as_plain {A = A} value_in plain (word ∷ words) x e left =
    let b = bind_ok (value_in word) (λ (value : A). done RowFault (value, words)) x e in
    let is = ok_is (b.0, words) x b.2 in
    (plain word b.0 b.1, subst ArePlain (ap (λ (y : A × Row). y.1) (sym is)) left)

pub iso_reads : {A B : Type 0} (to : A → B) (from : B → A) (part : Part A) → PartIsPlain part
    → PartIsPlain (iso to from part)
iso_reads {A = A} {B = B} to from part plain row x e left =
    let a = bind_ok (part.read row) (λ (a : A × Row). done RowFault (to a.0, a.1)) x e in
    let is = ok_is (to a.0.0, a.0.1) x a.2 in
    plain row a.0 a.1 (subst ArePlain (ap (λ (y : B × Row). y.1) (sym is)) left)

pub both_reads : {A B : Type 0} (first : Part A) (second : Part B) → PartIsPlain first
    → PartIsPlain second → PartIsPlain (first & second)
both_reads {A = A} {B = B} first second one two row x e left =
    let a = bind_ok (first.read row)
    (λ (a : A × Row). read_as (λ (b : B). (a.0, b)) (second.read a.1)) x e in
    let b = bind_ok (second.read a.0.1)
    (λ (b : B × Row). done RowFault ((a.0.0, b.0), b.1)) x a.2 in
    let is = ok_is ((a.0.0, b.0.0), b.0.1) x b.2 in
    one row a.0 a.1 (two a.0.1 b.0 b.1
    (subst ArePlain (ap (λ (y : (A × B) × Row). y.1) (sym is)) left))

all_reads : {A : Type 0} (item : Part A) → PartIsPlain item → (most : ℕ) (row : Row)
    (items : List A) → all_at (after_first item) most row ≡ Ok items → ArePlain row
unfolding all_at
all_reads item plain most [] items e = tt
all_reads item plain zero (word ∷ words) items e = absurd cc
all_reads item plain (suc most) (word ∷ words) items e =
    let first = bind_ok (item.read (word ∷ words)) _ items e in
    let others = bind_ok (all_at (after_first item) most first.0.1) _ items first.2 in
    plain (word ∷ words) first.0 first.1 (all_reads item plain most first.0.1 others.0 others.1)

pub to_end_reads : {A : Type 0} (most : ℕ) (item : Part A) → PartIsPlain item
    → PartIsPlain (items_to_end most item)
to_end_reads {A = A} most item plain row x e left =
    let items = bind_ok (all_at (after_first item) most row)
    (λ (items : List A). done RowFault (items, [])) x e in
    all_reads item plain most row items.0 items.1

pub labelled_reads : {A : Type 0} (name : Word) (part : Part A) → has_zero name ≡ false
    → PartIsPlain part → PartIsPlain (labelled_part name part)
labelled_reads name part named plain row x e left =
    let words = bind_ok (words_after name row) (λ others. part.read others.1) x e in
    let is = behind_back name row words.0.0 words.0.1 words.1 in
    subst ArePlain (sym is) (named, plain words.0.1 x words.2 left)

pub line_reads : {A : Type 0} (part : Part A) → PartIsPlain part → ReadsPlain (line_read part)
line_reads {A = A} part plain row a e =
    let x = bind_ok (part.read row) (λ (x : A × Row). if_last x.1 x.0) a e in
    let end = ended_back A x.0.1 x.0.0 a x.2 in
    row_plain row (plain row x.0 x.1 (subst ArePlain (sym end.0) tt))
