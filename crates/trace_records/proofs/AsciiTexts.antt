-- The texts of records are ASCII: the words of replies and events.
use Rattle.std.proofs.Common.{◌≡◌, ℕ, zero, suc, ◌+◌, ◌/◌, ◌%◌, ◌<◌, Bool, true, false, cond}
use Rattle.std.proofs.Common.{nat_lt, ◌==◌, List, [], ◌∷◌, ◌++◌, length, codes}
use Rattle.std.proofs.Common.{decimal, refl, arith}
use Rattle.std.proofs.lemmas.Bool.{and_parts}
use Rattle.std.proofs.lemmas.Bool.Decides.{nat_tests}
use Rattle.std.proofs.lemmas.Str.{IsAscii-append, IsUtf8-from_ascii}
use Rattle.std.proofs.lemmas.Str.Ascii.{IsAscii-nil}
use Rattle.std.specs.Fmt.{digit_glyph, digits, digits_onto}
use Rattle.std.specs.List.{list_all, join_with_byte, slice_index, AllByRecursion}
use Rattle.std.specs.Str.{IsAscii, IsUtf8}
use Rattle.hex.specs.Hex.{encode_upper, encode_with, upper_digits}
use Rattle.cosem_axdr.specs.Spelling.{text}
use Rattle.cosem_axdr.specs.View.{tree_of}
use Rattle.cosem_axdr.specs.declared.value.Data.{Data}
use Rattle.cosem_names.specs.ResultCode.{code_of}
use Rattle.cosem_names.specs.declared.service.GetResult.{GetResult}
use Rattle.cosem_names.specs.declared.service.GetResult.TheVariants as result
use Rattle.relay_events.specs.declared.event.Event.{Event}
use Rattle.relay_events.specs.declared.reply.Reply.{Reply}
use Rattle.relay_events.specs.declared.reply.Reply.TheVariants.{Value, Values, Code, Sampled}
use Rattle.relay_events.specs.declared.reply.Reply.TheVariants.{SampledBoth, Ran, Stale}
use Rattle.text_lines.specs.Words.{line_of}
use Rattle.trace_lines.proofs.EventLaws.{WordsHave, event_words}
use Rattle.trace_lines.specs.Replies.{reply_row, result_words}
use Rattle.trace_lines.specs.Writing.{event_row}
use Rattle.trace_words.specs.Rows.{Row}
use Rattle.trace_words.specs.Writing.{all_words, data_word, row_text, words_after_blanks}
use Rattle.record_parts.proofs.AsciiTexts.{literal, one_more}
use Rattle.trace_records.specs.Records.{reply_text}

-- ---- hexadecimal and decimal digits

hex_is_ascii : (bytes : List ℕ) → IsAscii (encode_upper bytes)
unfolding encode_with
hex_is_ascii [] = IsAscii-nil
hex_is_ascii (byte ∷ bytes) =
    let high = slice_index upper_digits (byte / 16) in
    let low = slice_index upper_digits (byte % 16) in
    one_more high (low ∷ encode_upper bytes) (literal upper_digits refl (byte / 16))
    (one_more low (encode_upper bytes) (literal upper_digits refl (byte % 16))
    (hex_is_ascii bytes))

in_either : (P : List ℕ → Type 0) (test : Bool) (one other : List ℕ) → P one → P other
    → P (cond test one other)
in_either P true one other first second = first
in_either P false one other first second = second

glyph_is_low : (test : Bool) (d : ℕ) → d < 10 → cond test (48 + d) (87 + d) < 128
glyph_is_low true d small = omega arith
glyph_is_low false d small = omega arith

onto_is_ascii : (k n : ℕ) (acc : List ℕ) → IsAscii acc → IsAscii (digits_onto k 10 false n acc)
onto_is_ascii zero n acc ascii = ascii
onto_is_ascii (suc k) n acc ascii =
    let digit = digit_glyph false (n % 10) in
    let more : IsAscii (digit ∷ acc) =
    one_more digit acc (glyph_is_low (nat_lt (n % 10) 10) (n % 10) (omega arith)) ascii in
    in_either IsAscii (n / 10 == 0) (digit ∷ acc) (digits_onto k 10 false (n / 10) (digit ∷ acc))
    more (onto_is_ascii k (n / 10) (digit ∷ acc) more)

decimal_is_ascii : (n : ℕ) → IsAscii (decimal n)
unfolding digits
decimal_is_ascii n = onto_is_ascii 64 n [] IsAscii-nil

data_is_ascii : (value : Data) → IsAscii (data_word value)
data_is_ascii value = hex_is_ascii (text (tree_of value))

-- ---- lines of words

abbrev AreAscii : Row → Type 0
AreAscii words = AllByRecursion IsAscii words

after_blanks_are_ascii : (words : Row) → AreAscii words → IsAscii (words_after_blanks words)
after_blanks_are_ascii [] are = IsAscii-nil
after_blanks_are_ascii (word ∷ words) are =
    one_more 32 (word ++ words_after_blanks words) (omega arith)
    (IsAscii-append word (words_after_blanks words) are.0 (after_blanks_are_ascii words are.1))

row_is_ascii : (words : Row) → AreAscii words → IsAscii (row_text words)
row_is_ascii [] are = IsAscii-nil
row_is_ascii (word ∷ words) are =
    IsAscii-append word (words_after_blanks words) are.0 (after_blanks_are_ascii words are.1)

line_is_ascii : (words : Row) → AreAscii words → IsAscii (line_of words)
unfolding line_of
line_is_ascii [] are = IsAscii-nil
line_is_ascii (word ∷ []) are = are.0
line_is_ascii (word ∷ next ∷ words) are =
    let others = join_with_byte 32 (next ∷ words) in
    IsAscii-append word (32 ∷ others) are.0
    (one_more 32 others (omega arith) (line_is_ascii (next ∷ words) are.1))

-- ---- replies

named : (name word : List ℕ) → list_all (λ byte. nat_lt byte 128) name ≡ true → IsAscii word
    → AreAscii (name ∷ word ∷ [])
named name word e ascii = (literal name e, (ascii, tt))

results_are_ascii : (items : List GetResult) → AreAscii (all_words result_words items)
unfolding all_words
results_are_ascii [] = tt
results_are_ascii (result.Value value ∷ items) =
    (literal (codes "value") refl, (data_is_ascii value, results_are_ascii items))
results_are_ascii (result.Code code ∷ items) =
    (literal (codes "code") refl, (decimal_is_ascii (code_of code), results_are_ascii items))

reply_words : (reply : Reply) → AreAscii (reply_row reply)
unfolding reply_row
reply_words (Value value) = named (codes "value") (data_word value) refl (data_is_ascii value)
reply_words (Code code) =
    named (codes "code") (decimal (code_of code)) refl (decimal_is_ascii (code_of code))
reply_words (Values items) = (
  literal (codes "values") refl,
  (decimal_is_ascii (length items), results_are_ascii items),
)
reply_words (Sampled over under) = (
  literal (codes "sampled") refl,
  (decimal_is_ascii over, (decimal_is_ascii under, tt)),
)
reply_words (SampledBoth over under export_over export_under) = (
  literal (codes "sampled") refl,
  (
    decimal_is_ascii over,
    (
      decimal_is_ascii under,
      (decimal_is_ascii export_over, (decimal_is_ascii export_under, tt)),
    ),
  ),
)
reply_words (Ran due) = named (codes "ran") (decimal due) refl (decimal_is_ascii due)
reply_words (Stale last) = named (codes "stale") (decimal last) refl (decimal_is_ascii last)

pub reply_is_ascii : (reply : Reply) → IsAscii (reply_text reply)
reply_is_ascii reply = row_is_ascii (reply_row reply) (reply_words reply)

-- ---- events

words_are_ascii : WordsHave ⊥ IsAscii
words_are_ascii = record {
  fixed = λ word above ascii. literal word ascii;
  number = decimal_is_ascii;
  name = λ bytes known. hex_is_ascii bytes;
  value = λ value known. data_is_ascii value;
}

pub event_is_ascii : (event : Event) → IsAscii (line_of (event_row event))
event_is_ascii event = line_is_ascii (event_row event)
    (event_words words_are_ascii event (λ none. absurd none) (λ none. absurd none))
