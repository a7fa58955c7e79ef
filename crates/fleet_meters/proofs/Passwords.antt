-- A password with another first byte.
use Rattle.std.proofs.Common.{◌≡◌, ◌≢◌, ℕ, Bool, if◌then◌else◌, List, [], ◌∷◌, refl, sym, ◌∙◌, ap}
use Rattle.std.proofs.Common.{arith, length, inl, inr}
use Rattle.std.proofs.lemmas.Bool.Decides.{eqb_tells}
use Rattle.acse_ber.specs.Password.{IsPassword}
use Rattle.fleet_meters.specs.Passwords.{other_byte, other_password}

same_length : (password : List ℕ) → length (other_password password) ≡ length password
same_length [] = refl
same_length (byte ∷ bytes) = refl

pub other_guarded : (password : List ℕ) → IsPassword password
    → IsPassword (other_password password)
other_guarded password guarded =
    let same = same_length password in
    (omega (arith, guarded.0, same), omega (arith, guarded.1, same))

byte_differs : (byte : ℕ) → other_byte byte ≢ byte
byte_differs byte same = elim (eqb_tells byte 48) [
  | inl e ↦ absurd (omega (
    arith,
    e.1,
    sym (ap (λ (b : Bool). if b then 49 else 48) e.0) ∙ same,
  ))
  | inr e ↦ absurd (e.1 (sym same ∙ ap (λ (b : Bool). if b then 49 else 48) e.0))
]

pub other_differs : (password other : List ℕ) → IsPassword password
    → other ≡ other_password password → other ≢ password
other_differs [] other guarded is same = absurd (omega (arith, guarded.0))
other_differs (byte ∷ bytes) other guarded is same =
    byte_differs byte (ap first (sym is ∙ same))
  where
    first : List ℕ → ℕ
    first [] = 0
    first (b ∷ bs) = b
