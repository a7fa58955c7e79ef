-- Words without a byte 0, and the line of such words.
use Rattle.std.proofs.Common.{◌≡◌, ℕ, Bool, true, false, ◌==◌, List, [], ◌∷◌, ◌++◌, refl, ◌∙◌, arith}
use Rattle.std.specs.Char.{is_ascii_digit}
use Rattle.std.specs.List.{list_all}
use Rattle.std.proofs.lemmas.Bool.{and_parts}
use Rattle.std.proofs.lemmas.Bool.Decides.{nat_tests}
use Rattle.std.proofs.lemmas.List.Folds.{list_any-append}
use Rattle.text_lines.specs.Hexadecimal.{is_capital_digit}
use Rattle.text_lines.specs.Words.{line_of}
use Rattle.trace_words.specs.Rows.{Row}
use Rattle.trace_words.specs.WholeLines.{has_zero}

-- ---- bytes

plain_joined : (a b : List ℕ) → has_zero a ≡ false → has_zero b ≡ false → has_zero (a ++ b) ≡ false
plain_joined a b one other = list_any-append (λ byte. byte == 0) a b ∙ rw (one, other) refl

-- bytes that pass a test that the byte 0 fails
pub test_plain : (p : ℕ → Bool) → ((b : ℕ) → p b ≡ true → (b == 0) ≡ false) → (bytes : List ℕ)
    → list_all p bytes ≡ true → has_zero bytes ≡ false
test_plain p fails [] e = refl
test_plain p fails (b ∷ bytes) e =
    let both = and_parts (p b) (list_all p bytes) e in
    rw (fails b both.0, test_plain p fails bytes both.1) refl

pub digit_plain : (b : ℕ) → is_ascii_digit b ≡ true → (b == 0) ≡ false
digit_plain b e = grind (arith, nat_tests)

pub capital_plain : (b : ℕ) → is_capital_digit b ≡ true → (b == 0) ≡ false
capital_plain b e = grind (arith, nat_tests)

-- ---- the words of a line

-- none of the words has a byte 0
abbrev pub ArePlain : Row → Type 0
ArePlain [] = Unit {0}
ArePlain (word ∷ words) = (has_zero word ≡ false) × ArePlain words

pub plain_line : (words : Row) → ArePlain words → has_zero (line_of words) ≡ false
unfolding line_of
plain_line [] plain = refl
plain_line (word ∷ []) plain = plain.0
plain_line (word ∷ next ∷ words) plain =
    plain_joined word (32 ∷ line_of (next ∷ words)) plain.0 (plain_line (next ∷ words) plain.1)
