-- Words of hexadecimal digits in capitals: bytes that are written are read back, and no other word
-- is read as these bytes.
use Rattle.std.proofs.Common.{◌≡◌, ℕ, zero, suc, ◌+◌, ◌*◌, ◌/◌, ◌%◌, ◌<◌, Bool, true, false, cond, not, ◌&&◌, ◌||◌, nat_lt, ◌==◌, inl, inr, List, [], ◌∷◌, length, slice_index, Option, Some, None, Result, Ok, Err, refl, sym, ap, ◌∙◌, arith}
use Rattle.std.specs.List.{list_all}
use Rattle.std.specs.Result.{result_ok}
use Rattle.std.proofs.lemmas.Bool.{and_parts, cases_lt, eqb-true}
use Rattle.std.proofs.lemmas.Bool.Decides.{nat_tests}
use Rattle.hex.specs.Hex.{decode_of, decode_pairs, digit_or_error, encode_upper, encode_with, hex_digit_value, pair_value, upper_digits, value_at, IsBytes}
use Rattle.hex.specs.declared.error.FromHexError.{FromHexError}
use Rattle.hex.proofs.HexLemmas.{decode_of-encode_upper, decode_of-even, decode_of-ok, length-encode_with}
use Rattle.hex.proofs.Pairs.{cons_byte, decode_pairs-ok_pair}
use Rattle.text_lines.specs.Hexadecimal.{bytes_of, is_capital_digit, is_hexadecimal}
use Rattle.text_lines.specs.Words.{is_word, is_word_byte}
use Rattle.text_lines.proofs.WordsLemmas.{list_all_less, word_is}

-- ---- the sixteen digits

-- a test of all numbers below a bound, by computation
abbrev all_below : (ℕ → Bool) → ℕ → Bool
all_below test zero = true
all_below test (suc n) = test n && all_below test n

all_below-at : (test : ℕ → Bool) (n k : ℕ) → all_below test n ≡ true → k < n → test k ≡ true
all_below-at test zero k e lt = absurd (omega arith)
all_below-at test (suc n) k e lt =
    let both = and_parts (test n) (all_below test n) e in
    elim (cases_lt k n) [
      | inl below ↦ all_below-at test n k both.1 below
      | inr top ↦
          let here : k ≡ n = omega arith in
          rw here both.0
    ]

-- the digit of a value is a capital one
abbrev is_written_capital : ℕ → Bool
is_written_capital value = is_capital_digit (slice_index upper_digits value)

written_capital : (value : ℕ) → value < 16 → is_written_capital value ≡ true
written_capital value lt = all_below-at is_written_capital 16 value refl lt

-- a capital digit has a value, and that value is written as the digit
abbrev writes_back : ℕ → Option ℕ → Bool
writes_back c None = false
writes_back c (Some value) = nat_lt value 16 && slice_index upper_digits value == c

abbrev is_written_back : ℕ → Bool
is_written_back c = not (is_capital_digit c) || writes_back c (hex_digit_value c)

record Digit (c : ℕ) : Type 0 where
  value : ℕ
  small : value < 16
  read : hex_digit_value c ≡ Some value
  written : slice_index upper_digits value ≡ c

digit_of : (c : ℕ) (o : Option ℕ) → hex_digit_value c ≡ o → writes_back c o ≡ true → Digit c
digit_of c None e test = absurd (cc test)
digit_of c (Some v) e test =
    let both = and_parts (nat_lt v 16) (slice_index upper_digits v == c) test in
    record {
      value = v;
      small = grind (arith, nat_tests);
      read = e;
      written = eqb-true (slice_index upper_digits v) c both.1;
    }

implied : (a b : Bool) → (not a || b) ≡ true → a ≡ true → b ≡ true
implied true b e h = e
implied false b e h = absurd (cc h)

capital_below : (c : ℕ) → is_capital_digit c ≡ true → c < 71
capital_below c e = grind (arith, nat_tests)

capital_digit : (c : ℕ) → is_capital_digit c ≡ true → Digit c
capital_digit c e =
    let test = all_below-at is_written_back 71 c refl (capital_below c e) in
    digit_of c (hex_digit_value c) refl (implied (is_capital_digit c)
    (writes_back c (hex_digit_value c)) test e)

-- ---- written and read back

-- all digits that are written are capitals
pub encode_capitals : (bytes : List ℕ) → IsBytes bytes
    → list_all is_capital_digit (encode_upper bytes) ≡ true
unfolding encode_with
encode_capitals [] h = refl
encode_capitals (b ∷ bytes) h =
    let fits : b < 256 = h 0 in
    let high : b / 16 < 16 = omega arith in
    let low : b % 16 < 16 = omega arith in
    rw (
      written_capital (b / 16) high,
      written_capital (b % 16) low,
      encode_capitals bytes (λ k. h (suc k)),
    ) refl

some_test : (word : List ℕ) → 0 < length word → nat_lt 0 (length word) ≡ true
some_test word h = grind (arith, nat_tests)

encode_some : (bytes : List ℕ) → 0 < length bytes → 0 < length (encode_upper bytes)
encode_some bytes some = omega (arith, length-encode_with upper_digits bytes)

-- bytes that are written are read back
pub bytes_again : (bytes : List ℕ) → 0 < length bytes → IsBytes bytes
    → bytes_of (encode_upper bytes) ≡ Some bytes
unfolding bytes_of
bytes_again bytes some h =
    rw (
      some_test (encode_upper bytes) (encode_some bytes some),
      encode_capitals bytes h,
      decode_of-encode_upper bytes h,
    ) refl

-- the digits of bytes are a word
capital_is_word_byte : (c : ℕ) → is_capital_digit c ≡ true → is_word_byte c ≡ true
capital_is_word_byte c e = grind (arith, nat_tests)

pub hex_is_word : (bytes : List ℕ) → 0 < length bytes → IsBytes bytes → is_word (encode_upper bytes)
    ≡ true
hex_is_word bytes some h =
    word_is (encode_upper bytes) (encode_some bytes some)
    (list_all_less is_capital_digit is_word_byte capital_is_word_byte (encode_upper bytes)
    (encode_capitals bytes h))

-- the value of a step that was put in front
uncons : (v : ℕ) (r : Result (List ℕ) FromHexError) (bytes : List ℕ) → cons_byte v r ≡ Ok bytes
    → (rest : List ℕ) × (r ≡ Ok rest) × (v ∷ rest ≡ bytes)
uncons v (Ok rest) bytes e = (rest, refl, cc e)
uncons v (Err fault) bytes e = absurd (cc e)

-- the digits of one byte, followed by those of others
encode_pair : (high low h l : ℕ) (rest bytes : List ℕ) → h < 16 → l < 16
    → slice_index upper_digits h ≡ high → slice_index upper_digits l ≡ low
    → rest ≡ encode_upper bytes → encode_upper ((h * 16 + l) ∷ bytes) ≡ high ∷ low ∷ rest
unfolding encode_with
encode_pair high low h l rest bytes small_high small_low is_high is_low others =
    let over : (h * 16 + l) / 16 ≡ h = omega arith in
    let under : (h * 16 + l) % 16 ≡ l = omega arith in
    rw (over, under, is_high, is_low, others) refl

-- two digits that decode, followed by others that do
pair_only : (i high low : ℕ) (rest bytes : List ℕ) (h : Digit high) (l : Digit low)
    → ((tail : List ℕ) → decode_pairs (i + 2) rest ≡ Ok tail → rest ≡ encode_upper tail)
    → decode_pairs i (high ∷ low ∷ rest) ≡ Ok bytes → high ∷ low ∷ rest ≡ encode_upper bytes
pair_only i high low rest bytes h l others e =
    let read_high : value_at high i ≡ Ok h.value = ap (digit_or_error high i) h.read in
    let read_low : value_at low (i + 1) ≡ Ok l.value = ap (digit_or_error low (i + 1)) l.read in
    let pair : pair_value high low i ≡ Ok (h.value * 16 + l.value) =
    rw (read_high, read_low) refl in
    let tail = uncons (h.value * 16 + l.value) (decode_pairs (i + 2) rest) bytes
    (sym (decode_pairs-ok_pair i high low (h.value * 16 + l.value) rest pair) ∙ e) in
    let front = encode_pair high low h.value l.value rest tail.0 h.small l.small h.written l.written
    (others tail.0 tail.1) in
    sym front ∙ ap encode_upper tail.2

-- capital digits that decode are those that write the bytes
pairs_only : (i : ℕ) (word bytes : List ℕ) → list_all is_capital_digit word ≡ true
    → decode_pairs i word ≡ Ok bytes → word ≡ encode_upper bytes
unfolding decode_pairs encode_with
pairs_only i [] [] capitals e = refl
pairs_only i [] (b ∷ bytes) capitals e = absurd (cc e)
pairs_only i (digit ∷ []) bytes capitals e = absurd (cc e)
pairs_only i (high ∷ low ∷ rest) bytes capitals e =
    let first = and_parts (is_capital_digit high) (is_capital_digit low
    && list_all is_capital_digit rest) capitals in
    let second = and_parts (is_capital_digit low) (list_all is_capital_digit rest) first.1 in
    pair_only i high low rest bytes (capital_digit high first.0) (capital_digit low second.0)
    (λ tail. pairs_only (i + 2) rest tail second.1) e

-- a choice that gave bytes
chosen_bytes : (b : Bool) (x : Option (List ℕ)) (y : List ℕ) → cond b x None ≡ Some y → (b ≡ true)
    × (x ≡ Some y)
chosen_bytes true x y e = (refl, e)
chosen_bytes false x y e = absurd (cc e)

ok_from : (r : Result (List ℕ) FromHexError) (bytes : List ℕ) → result_ok r ≡ Some bytes
    → r ≡ Ok bytes
ok_from (Ok x) bytes e = cc e
ok_from (Err fault) bytes e = absurd (cc e)

-- no other word is read as these bytes
pub bytes_only : (word bytes : List ℕ) → bytes_of word ≡ Some bytes → (word ≡ encode_upper bytes)
    × IsBytes bytes × (length word ≡ 2 * length bytes) × (0 < length bytes)
unfolding bytes_of
bytes_only word bytes e =
    let found = chosen_bytes (is_hexadecimal word) (result_ok (decode_of word)) bytes e in
    let both = and_parts (nat_lt 0 (length word)) (list_all is_capital_digit word) found.0 in
    let some : 0 < length word = grind (arith, nat_tests) in
    let decoded = ok_from (decode_of word) bytes found.1 in
    let facts = decode_of-ok word bytes decoded in
    let len = facts.2 in (
      pairs_only 0 word bytes both.1 (sym (decode_of-even word facts.0) ∙ decoded),
      facts.3,
      len,
      omega arith,
    )
