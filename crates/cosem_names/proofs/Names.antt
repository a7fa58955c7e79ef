-- Logical names are equal exactly if the numbers of their bytes are equal, and rows of attributes
-- are of one class and number exactly if both, as one number, are equal.
use Rattle.std.proofs.Common.{ℕ, List, [], ◌∷◌, get_or, drop, nat_eq, bytes_eq, ◌&&◌, ◌+◌, ◌*◌, ◌≡◌, ◌<◌, zero, suc, refl, sym, ◌∙◌, ap, arith}
use Rattle.std.specs.Int.{w64, to_be_bytes, from_be_bytes}
use Rattle.std.proofs.lemmas.Nat.{be_bytes_8}
use Rattle.std.proofs.lemmas.Bool.Decides.{same_from_decides, Decides-and, Decides-eqb}
use Rattle.std.proofs.lemmas.Slice.Eq.{bytes_eq-Decides}

-- two bytes 0 and six bytes
eight_bytes : (a b c d e f : ℕ) → a < 256 → b < 256 → c < 256 → d < 256 → e < 256 → f < 256
    → (i : ℕ) → get_or (0 ∷ 0 ∷ a ∷ b ∷ c ∷ d ∷ e ∷ f ∷ []) i 0 < 256
eight_bytes a b c d e f ha hb hc hd he hf zero = omega arith
eight_bytes a b c d e f ha hb hc hd he hf (suc zero) = omega arith
eight_bytes a b c d e f ha hb hc hd he hf (suc (suc zero)) = ha
eight_bytes a b c d e f ha hb hc hd he hf (suc (suc (suc zero))) = hb
eight_bytes a b c d e f ha hb hc hd he hf (suc (suc (suc (suc zero)))) = hc
eight_bytes a b c d e f ha hb hc hd he hf (suc (suc (suc (suc (suc zero))))) = hd
eight_bytes a b c d e f ha hb hc hd he hf (suc (suc (suc (suc (suc (suc zero)))))) = he
eight_bytes a b c d e f ha hb hc hd he hf (suc (suc (suc (suc (suc (suc (suc zero))))))) = hf
eight_bytes a b c d e f ha hb hc hd he hf (suc (suc (suc (suc (suc (suc (suc (suc i)))))))) =
    omega arith

-- the bytes of the number that two bytes 0 and six bytes make
pub eight_written : (a b c d e f n : ℕ) → a < 256 → b < 256 → c < 256 → d < 256 → e < 256
    → f < 256 → n ≡ from_be_bytes w64 (0 ∷ 0 ∷ a ∷ b ∷ c ∷ d ∷ e ∷ f ∷ [])
    → to_be_bytes w64 n ≡ 0 ∷ 0 ∷ a ∷ b ∷ c ∷ d ∷ e ∷ f ∷ []
eight_written a b c d e f n ha hb hc hd he hf is =
    be_bytes_8 (0 ∷ 0 ∷ a ∷ b ∷ c ∷ d ∷ e ∷ f ∷ []) n refl
    (eight_bytes a b c d e f ha hb hc hd he hf) is

pub compared_as_numbers : (one other : List ℕ) (m n : ℕ) → m ≡ from_be_bytes w64 (0 ∷ 0 ∷ one)
    → n ≡ from_be_bytes w64 (0 ∷ 0 ∷ other) → to_be_bytes w64 m ≡ 0 ∷ 0 ∷ one
    → to_be_bytes w64 n ≡ 0 ∷ 0 ∷ other → nat_eq m n ≡ bytes_eq one other
compared_as_numbers one other m n is_m is_n of_m of_n =
    same_from_decides (nat_eq m n) (bytes_eq one other) (
      (λ yes. ap (drop 2) (sym of_m ∙ ap (to_be_bytes w64) ((Decides-eqb m n).0 yes) ∙ of_n)),
      (λ same. (Decides-eqb m n).1
          (is_m ∙ ap (λ (text : List ℕ). from_be_bytes w64 (0 ∷ 0 ∷ text)) same ∙ sym is_n)),
    )
    (bytes_eq-Decides one other)

-- equal numbers have equal last bytes and equal numbers before them
one_gives_both : (class one other_class other : ℕ) → one < 256 → other < 256
    → class * 256 + one ≡ other_class * 256 + other
    → (class ≡ other_class) × (one ≡ other)
one_gives_both class one other_class other is_byte is_other_byte same =
    (omega arith, omega arith)

-- a class and a byte are equal exactly if they are equal as one number
pub compared_as_one : (class one other_class other : ℕ) → one < 256 → other < 256
    → nat_eq (class * 256 + one) (other_class * 256 + other)
    ≡ (nat_eq class other_class && nat_eq one other)
compared_as_one class one other_class other is_byte is_other_byte =
    same_from_decides (nat_eq (class * 256 + one) (other_class * 256 + other))
    (nat_eq class other_class && nat_eq one other) (
      (λ yes. one_gives_both class one other_class other is_byte is_other_byte
          ((Decides-eqb (class * 256 + one) (other_class * 256 + other)).0 yes)),
      (λ both. (Decides-eqb (class * 256 + one) (other_class * 256 + other)).1
          (ap (λ n. n * 256 + one) both.0 ∙ ap (λ n. other_class * 256 + n) both.1)),
    )
    (Decides-and (nat_eq class other_class) (nat_eq one other) (Decides-eqb class other_class)
    (Decides-eqb one other))
