-- Lengths: the shortest form of a length is one of its forms, and no form is shorter.
use Rattle.std.proofs.Common.{◌≡◌, ℕ, ◌^◌, ◌<◌, ◌≤◌, List, [], ◌∷◌}
use Rattle.std.proofs.Common.{length, refl, sym, ap, subst, arith, inl, inr}
use Rattle.std.specs.Int.{w16, to_be_bytes, bytes_high_first}
use Rattle.std.proofs.lemmas.Bool.{cases_lt, lt-ltb, le-ltb}
use Rattle.std.proofs.lemmas.Bool.Decides.{nat_tests}
use Rattle.std.proofs.lemmas.Nat.{from_be_bytes-to_be_bytes_2}
use Rattle.cosem_axdr.specs.Spelling.{IsBytes, IsUnsigned, length_text}
use Rattle.cosem_axdr.specs.Spelling as axdr
use Rattle.cosem_axdr.proofs.DataFits as axdr_fits
use Rattle.acse_ber.specs.Parts.{IsLength}

one_byte : (n : ℕ) → n < 2 ^ 8 → bytes_high_first 1 n ≡ n ∷ []
one_byte n below = ap (λ (m : ℕ). m ∷ []) (omega arith)

-- the shortest form of a length is one of its forms
pub length_spells : (n : ℕ) → n < 2 ^ 16 → IsLength (length_text n) n
length_spells n below =
    elim (cases_lt n 0x80) [
      | inl h ↦ rw (lt-ltb n 0x80 h) (inl (h, refl))
      | inr h ↦ rw (le-ltb n 0x80 h) (elim (cases_lt n (2 ^ 8)) [
        | inl a ↦ rw (lt-ltb n (2 ^ 8) a) (inr
            (inl (ap (λ (bs : List ℕ). 0x81 ∷ bs) (one_byte n a))))
        | inr a ↦ rw (le-ltb n (2 ^ 8) a, lt-ltb n (2 ^ 16) below)
            (inr (inr (to_be_bytes w16 n, refl, (refl, sym (from_be_bytes-to_be_bytes_2 n below)))))
      ])
    ]

-- a length in BER, of at most two bytes, is one in A-XDR
two_is : (two : List ℕ) (n : ℕ) → IsUnsigned w16 two n → axdr.IsLength (0x82 ∷ two) n
two_is [] n is = absurd (omega (arith, is.0))
two_is (a ∷ []) n is = absurd (omega (arith, is.0))
two_is (a ∷ b ∷ []) n is = inr (omega arith, omega arith, refl, omega (arith, is.1))
two_is (a ∷ b ∷ c ∷ more) n is = absurd (omega (arith, is.0))

as_axdr : (text : List ℕ) (n : ℕ) → IsLength text n → axdr.IsLength text n
as_axdr text n (inl h) = rw h.1 (inl (h.0, refl, refl))
as_axdr text n (inr (inl e)) = rw e (inr (omega arith, omega arith, refl, omega arith))
as_axdr text n (inr (inr (two, e, is))) = rw e (two_is two n is)

-- a length in any form is below 2 ^ 16
below_16 : (text : List ℕ) (n : ℕ) → IsBytes text → IsLength text n → n < 2 ^ 16
below_16 text n bytes (inl h) = omega (arith, h.0)
below_16 text n bytes (inr (inl e)) = let b : n < 256 = subst IsBytes e bytes 1 in omega arith
below_16 text n bytes (inr (inr (two, e, is))) =
    let at = subst IsBytes e bytes in omega (arith, is.1, at 1, at 2)

-- and no form is shorter than the written one
pub length_is_short : (text : List ℕ) (n : ℕ) → IsBytes text → IsLength text n → (n < 2 ^ 16)
    × (length (length_text n) ≤ length text)
length_is_short text n bytes is =
    (below_16 text n bytes is, (axdr_fits.length_is_short text n bytes (as_axdr text n is)).1)

-- a greater length has no shorter form
pub form_grows : (m n : ℕ) → m ≤ n → length (length_text m) ≤ length (length_text n)
form_grows m n le = grind (arith, nat_tests)
