-- The parts of the lines of events are exact.
use Rattle.std.proofs.Common.{◌≡◌, ℕ, ◌*◌, ◌≤◌, cond, true, false, nat_eq, ◌==◌, length}
use Rattle.std.proofs.Common.{Option, Some, None, Ok, Err, refl, ap, ◌∙◌, arith, inl, inr}
use Rattle.std.proofs.Common.{decimal, codes, eq-eqb}
use Rattle.std.proofs.lemmas.Bool.{eqb-true}
use Rattle.std.specs.Cmp.Lexicographic.{pointwise, unequal}
use Rattle.std.specs.Prelude.{IfSome}
use Rattle.wire_bytes.specs.Outcome.{◌>>=◌}
use Rattle.wire_bytes.proofs.OutcomeLemmas.{done, ok_is, bind_ok, guard_ok, chosen}
use Rattle.hex.specs.Hex.{encode_upper, upper_digits, IsBytes}
use Rattle.hex.proofs.HexLemmas.{length-encode_with}
use Rattle.cosem_axdr.specs.Spelling.{text}
use Rattle.cosem_axdr.specs.View.{tree_of}
use Rattle.cosem_axdr.specs.declared.value.Data.{Data}
use Rattle.cosem_names.specs.declared.level.Level.{Level}
use Rattle.cosem_names.specs.declared.level.Level.TheVariants.{Public, Management}
use Rattle.cosem_names.specs.declared.name.Obis.{Obis}
use Rattle.text_lines.specs.Words.{is_word}
use Rattle.text_lines.proofs.HexadecimalLemmas.{hex_is_word}
use Rattle.trace_words.proofs.PartLaws.{IsExact, word_exact, number_exact, flag_exact}
use Rattle.trace_words.proofs.PartLaws.{iso_exact, both_exact}
use Rattle.trace_words.proofs.ShortRows.{number_short, bytes_short, data_short}
use Rattle.trace_words.proofs.WordLaws.{number_word_again, bytes_word_again, data_word_again}
use Rattle.trace_words.proofs.WordLaws.{number_is_word, data_is_word}
use Rattle.trace_words.proofs.WordsBack.{IsWrittenBack, number_back, bytes_back, data_back, same_is}
use Rattle.trace_words.specs.Reading.{number_in, bytes_in, data_in}
use Rattle.trace_words.specs.Rows.{Row}
use Rattle.trace_words.specs.Writing.{IsHeld, data_word}
use Rattle.trace_words.specs.declared.fault.RowFault.{RowFault}
use Rattle.trace_words.specs.declared.fault.RowFault.TheVariants.{Wrong}
use Rattle.trace_lines.specs.Parts.{level_part, class_part, name_part, attribute_part, method_part}
use Rattle.trace_lines.specs.Parts.{selection_part, parameter_part, sample_part, pair_part}
use Rattle.trace_lines.specs.Reading.{level_in, level_number, name_in, parameter_in, parameter_word}

-- ---- a port

level_is : (n : ℕ) (level : Level) → cond (n == 1) (done RowFault Management)
    (cond (n == 16) (Ok Public) (Err Wrong)) ≡ Ok level → n ≡ level_number level
level_is n level e =
    elim (chosen (n == 1) (done RowFault Management) (cond (n == 16) (Ok Public) (Err Wrong))
    (Ok level) e) [
      | inl one ↦ eqb-true n 1 one.0 ∙ ap level_number (ok_is Management level one.1)
      | inr other ↦
          elim (chosen (n == 16) (done RowFault Public) (Err Wrong) (Ok level) other.1) [
            | inl sixteen ↦ eqb-true n 16 sixteen.0 ∙ ap level_number (ok_is Public level sixteen.1)
            | inr none ↦ absurd (cc (none.1))
          ]
    ]

level_back : IsWrittenBack Level level_in (λ level. decimal (level_number level))
level_back word level e =
    let read = bind_ok (number_in 16 word) _ level e in
    number_back 16 (omega arith) word read.0 read.1 ∙ ap decimal (level_is read.0 level read.2)

level_again : (level : Level) → level_in (decimal (level_number level)) ≡ Ok level
level_again Management = let h = number_word_again 16 1 (omega arith) (omega arith) in rw h refl
level_again Public = let h = number_word_again 16 16 (omega arith) (omega arith) in rw h refl

level_small : (level : Level) → level_number level ≤ 16
level_small Management = omega arith
level_small Public = omega arith

pub level_exact : {MayFollow : Row → Type 0} → IsExact MayFollow 11 level_part
level_exact =
    word_exact 10 _ _ _ level_back (λ level fit. level_again level)
    (λ level fit. number_is_word (level_number level) (omega (arith, level_small level)))
    (λ level fit. number_short (level_number level) (omega (arith, level_small level)))

-- ---- attributes and methods

name_back : IsWrittenBack Obis name_in (λ name. encode_upper name.0)
unfolding name_in
name_back word name e =
    let read = bind_ok (bytes_in word) _ name e in
    let six = guard_ok (length read.0 == 6) Wrong _ name read.2 in
    bytes_back word read.0 read.1 ∙ ap (λ (n : Obis). encode_upper n.0)
    (ok_is (record { 0 = read.0 }) name six.1)

name_again : (name : Obis) → (length name.0 ≡ 6) × IsBytes name.0
    → name_in (encode_upper name.0) ≡ Ok name
unfolding name_in
name_again name (long, are) =
    let h = bytes_word_again name.0 (omega arith) are in
    let six : (length name.0 == 6) ≡ true = eq-eqb (length name.0) 6 long in
    rw (h, six) refl

name_exact : {MayFollow : Row → Type 0} → IsExact MayFollow 13 name_part
name_exact =
    word_exact 12 _ _ _ name_back name_again
    (λ name fit. hex_is_word name.0 (omega (arith, fit.0)) fit.1)
    (λ name fit. bytes_short name.0 6 (omega (arith, fit.0)))

class_exact : {MayFollow : Row → Type 0} → IsExact MayFollow 11 class_part
class_exact = iso_exact _ _ _ (λ class. refl) (λ n. refl) (number_exact 65535 (omega arith))

attribute_exact : {MayFollow : Row → Type 0} → IsExact MayFollow 35 attribute_part
attribute_exact = iso_exact _ _ _ (λ attr. refl) (λ parts. refl)
    (both_exact _ _ class_exact (both_exact _ _ name_exact (number_exact 255 (omega arith))))

pub method_exact : {MayFollow : Row → Type 0} → IsExact MayFollow 35 method_part
method_exact = iso_exact _ _ _ (λ method. refl) (λ parts. refl)
    (both_exact _ _ class_exact (both_exact _ _ name_exact (number_exact 255 (omega arith))))

pub selection_exact : {MayFollow : Row → Type 0} → IsExact MayFollow 46 selection_part
selection_exact = iso_exact _ _ _ (λ item. refl) (λ parts. refl)
    (both_exact _ _ attribute_exact flag_exact)

-- ---- parameters

-- `-`, the word of no parameter, is not the word of a Data
no_hyphen : (value : Data) → IsHeld value → pointwise nat_eq (data_word value) (codes "-") ≡ false
no_hyphen value held =
    unequal nat_eq (data_word value) (codes "-") (λ e. let long : length (data_word value)
    ≡ 2 * length (text (tree_of value)) =
    length-encode_with upper_digits (text (tree_of value)) in absurd (omega (arith, e, long)))

parameter_again : (parameter : Option Data) → IfSome parameter IsHeld
    → parameter_in (parameter_word parameter) ≡ Ok parameter
parameter_again None held = refl
parameter_again (Some value) held =
    let other = no_hyphen value held in
    let read = data_word_again value held in
    rw (other, read) refl

parameter_back : IsWrittenBack (Option Data) parameter_in parameter_word
parameter_back word parameter e =
    elim (chosen (pointwise nat_eq word (codes "-")) (done RowFault None) (data_in word
    >>= λ value. Ok (Some value)) (Ok parameter) e) [
      | inl none ↦ same_is word (codes "-") none.0 ∙ ap parameter_word (ok_is None parameter none.1)
      | inr some ↦
          let read = bind_ok (data_in word) _ parameter some.1 in
          data_back word read.0 read.1 ∙ ap parameter_word (ok_is (Some read.0) parameter read.2)
    ]

parameter_is_word : (parameter : Option Data) → IfSome parameter IsHeld
    → is_word (parameter_word parameter) ≡ true
parameter_is_word None held = refl
parameter_is_word (Some value) held = data_is_word value held

parameter_short : (parameter : Option Data) → IfSome parameter IsHeld
    → length (parameter_word parameter) ≤ 16384
parameter_short None held = omega arith
parameter_short (Some value) held = data_short value held

pub parameter_exact : {MayFollow : Row → Type 0} → IsExact MayFollow 16385 parameter_part
parameter_exact =
    word_exact 16384 _ _ _ parameter_back parameter_again parameter_is_word parameter_short

-- ---- samples

pub sample_exact : {MayFollow : Row → Type 0} → IsExact MayFollow 11 sample_part
sample_exact = number_exact 4294967295 (omega arith)

pub pair_exact : {MayFollow : Row → Type 0} → IsExact MayFollow 22 pair_part
pair_exact = both_exact _ _ sample_exact sample_exact
