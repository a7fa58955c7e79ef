-- Words and lines without the bytes 0 and 0A: numbers, hexadecimal digits, and lines of such words.
use Rattle.std.proofs.Common.{◌≡◌, ◌≢◌, ℕ, zero, suc, ◌+◌, ◌/◌, ◌%◌, ◌≤◌, Bool, true, false, cond}
use Rattle.std.proofs.Common.{nat_lt, ◌==◌, List, [], ◌∷◌, ◌++◌, decimal, arith}
use Rattle.std.proofs.lemmas.Bool.{and_parts}
use Rattle.std.proofs.lemmas.Bool.Decides.{nat_tests}
use Rattle.std.specs.Fmt.{digit_glyph, digits, digits_onto}
use Rattle.std.specs.List.{list_all, join_with_byte, AllByRecursion}
use Rattle.hex.specs.Hex.{encode_upper, IsBytes}
use Rattle.text_lines.specs.Hexadecimal.{is_capital_digit}
use Rattle.text_lines.specs.Lines.{IsPlain}
use Rattle.text_lines.specs.Words.{line_of}
use Rattle.text_lines.proofs.HexadecimalLemmas.{encode_capitals}

pub plain_append : (a b : List ℕ) → IsPlain a → IsPlain b → IsPlain (a ++ b)
plain_append [] b one two = two
plain_append (byte ∷ a) b one two = (one.0, plain_append a b one.1 two)

-- a byte of at least 48, as all digits and letters are
far_byte : (byte : ℕ) → 48 ≤ byte → (byte ≢ 0) × (byte ≢ 10)
far_byte byte far = ((λ e. absurd (omega (arith, far, e))), (λ e. absurd (omega (arith, far, e))))

-- a word whose bytes are all above 10
above_end : (byte : ℕ) → nat_lt 10 byte ≡ true → (byte ≢ 0) × (byte ≢ 10)
above_end byte e =
    let above : 11 ≤ byte = grind (arith, nat_tests) in
    ((λ e. absurd (omega (arith, above, e))), (λ e. absurd (omega (arith, above, e))))

pub plain_word : (word : List ℕ) → list_all (nat_lt 10) word ≡ true → IsPlain word
plain_word [] e = tt
plain_word (byte ∷ word) e =
    let both = and_parts (nat_lt 10 byte) (list_all (nat_lt 10) word) e in
    (above_end byte both.0, plain_word word both.1)

-- ---- hexadecimal digits

capital_far : (c : ℕ) → is_capital_digit c ≡ true → 48 ≤ c
capital_far c e = grind (arith, nat_tests)

capitals_plain : (bytes : List ℕ) → list_all is_capital_digit bytes ≡ true → IsPlain bytes
capitals_plain [] e = tt
capitals_plain (c ∷ bytes) e =
    let both = and_parts (is_capital_digit c) (list_all is_capital_digit bytes) e in
    (far_byte c (capital_far c both.0), capitals_plain bytes both.1)

pub hex_is_plain : (bytes : List ℕ) → IsBytes bytes → IsPlain (encode_upper bytes)
hex_is_plain bytes are = capitals_plain (encode_upper bytes) (encode_capitals bytes are)

-- ---- decimal digits

in_either : (P : List ℕ → Type 0) (test : Bool) (one other : List ℕ) → P one → P other
    → P (cond test one other)
in_either P true one other first second = first
in_either P false one other first second = second

glyph_far : (test : Bool) (d : ℕ) → 48 ≤ cond test (48 + d) (87 + d)
glyph_far true d = omega arith
glyph_far false d = omega arith

onto_plain : (k n : ℕ) (acc : List ℕ) → IsPlain acc → IsPlain (digits_onto k 10 false n acc)
onto_plain zero n acc plain = plain
onto_plain (suc k) n acc plain =
    let digit = digit_glyph false (n % 10) in
    let more : IsPlain (digit ∷ acc) =
    (far_byte digit (glyph_far (nat_lt (n % 10) 10) (n % 10)), plain) in
    in_either IsPlain (n / 10 == 0) (digit ∷ acc) (digits_onto k 10 false (n / 10) (digit ∷ acc))
    more (onto_plain k (n / 10) (digit ∷ acc) more)

pub decimal_is_plain : (n : ℕ) → IsPlain (decimal n)
unfolding digits
decimal_is_plain n = onto_plain 64 n [] tt

-- ---- lines of words

pub line_is_plain : (words : List (List ℕ)) → AllByRecursion IsPlain words
    → IsPlain (line_of words)
unfolding line_of
line_is_plain [] plain = tt
line_is_plain (word ∷ []) plain = plain.0
line_is_plain (word ∷ next ∷ words) plain =
    plain_append word (32 ∷ join_with_byte 32 (next ∷ words)) plain.0 (
      ((λ e. absurd (omega (arith, e))), (λ e. absurd (omega (arith, e)))),
      line_is_plain (next ∷ words) plain.1,
    )
