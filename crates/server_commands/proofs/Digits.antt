-- The digits of bytes in capitals.
use Rattle.std.proofs.Common.{◌≡◌, ℕ, zero, suc, ◌/◌, ◌%◌, ◌<◌, Bool, true, ◌&&◌, ◌==◌, List, [], ◌∷◌, All, map, slice_index, refl, ap₂, arith, inl, inr}
use Rattle.std.proofs.lemmas.Bool.{and_parts, cases_lt, eqb-true}
use Rattle.std.proofs.lemmas.List.Elements.{All-head, All-tail}
use Rattle.std.specs.Char.{to_ascii_uppercase}
use Rattle.hex.specs.Hex.{encode_with, encode_lower, encode_upper, lower_digits, upper_digits}

-- the digit of this value is the same letter in both tables
abbrev is_capital : ℕ → Bool
is_capital value = to_ascii_uppercase (slice_index lower_digits value) == slice_index upper_digits
    value

abbrev are_capital : ℕ → Bool
are_capital zero = true
are_capital (suc n) = is_capital n && are_capital n

capital_below : (n k : ℕ) → are_capital n ≡ true → k < n → is_capital k ≡ true
capital_below zero k h lt = absurd (omega arith)
capital_below (suc n) k h lt =
    let parts = and_parts (is_capital n) (are_capital n) h in
    elim (cases_lt k n) [
      | inl below ↦ capital_below n k parts.1 below
      | inr top ↦
          let e : k ≡ n = omega arith in
          rw e parts.0
    ]

capital_digit : (value : ℕ) → value < 16 → to_ascii_uppercase (slice_index lower_digits value)
    ≡ slice_index upper_digits value
capital_digit value lt =
    eqb-true (to_ascii_uppercase (slice_index lower_digits value)) (slice_index upper_digits value)
    (capital_below 16 value refl lt)

-- the digits of bytes, each in its capital
pub capitals : (bytes : List ℕ) → All (λ b. b < 256) bytes
    → map to_ascii_uppercase (encode_lower bytes) ≡ encode_upper bytes
unfolding encode_with
capitals [] small = refl
capitals (byte ∷ bytes) small =
    let here : byte < 256 = All-head (λ b. b < 256) byte bytes small in
    ap₂ (λ (digit : ℕ) (digits : List ℕ). digit ∷ digits) (capital_digit (byte / 16) (omega arith))
    (ap₂ (λ (digit : ℕ) (digits : List ℕ). digit ∷ digits) (capital_digit (byte % 16) (omega arith))
    (capitals bytes (All-tail (λ b. b < 256) byte bytes small)))
