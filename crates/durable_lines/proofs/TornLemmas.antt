-- The lines that an interrupted append or cut leaves.
use Rattle.std.proofs.Common.{◌≡◌, ◌≢◌, ◌⊎◌, inl, inr, ⊎_elim, ℕ, zero, suc, ◌+◌, ◌≤◌, List, []}
use Rattle.std.proofs.Common.{◌∷◌, ◌++◌, length, take, refl, sym, ◌∙◌, ap, subst, arith}
use Rattle.std.proofs.Common.{length-append}
use Rattle.std.proofs.lemmas.List.{append-nil}
use Rattle.durable_lines.specs.CrashModel.{IsTorn, TornAppend, TornCut}
use Rattle.durable_lines.specs.Lines.{lines_after, lines_in, text_of, IsBetween, IsText}
use Rattle.durable_lines.proofs.LineLemmas.{Zero, End, Other, first_byte, lines_zero, lines_end}
use Rattle.durable_lines.proofs.LineLemmas.{lines_more, lines_in-append}

-- a front of the lines
abbrev pub IsFront : List (List ℕ) → List (List ℕ) → Type 0
IsFront all lines = (k : ℕ) × (k ≤ length all) × (lines ≡ take k all)

front_zeroed : (begun bytes left : List ℕ) (byte c : ℕ) → c ≡ 0
    → IsFront (lines_after begun (byte ∷ bytes)) (lines_after begun (c ∷ left))
front_zeroed begun bytes left byte c is = (0, omega arith, lines_zero begun c left is)

front_end : (begun bytes left : List ℕ) (byte c : ℕ) → c ≡ byte → byte ≡ 10
    → IsFront (lines_after [] bytes) (lines_after [] left)
    → IsFront (lines_after begun (byte ∷ bytes)) (lines_after begun (c ∷ left))
front_end begun bytes left byte c same is rest =
    let all = lines_end begun byte bytes is in (
      suc rest.0,
      subst (λ ls. suc rest.0 ≤ length ls) (sym all) (omega (arith, rest.1)),
      lines_end begun c left (same ∙ is) ∙ ap (λ ls. begun ∷ ls) rest.2
          ∙ ap (take (suc rest.0)) (sym all),
    )

front_more : (begun bytes left : List ℕ) (byte c : ℕ) → c ≡ byte → byte ≢ 0 → byte ≢ 10
    → IsFront (lines_after (begun ++ byte ∷ []) bytes) (lines_after (begun ++ byte ∷ []) left)
    → IsFront (lines_after begun (byte ∷ bytes)) (lines_after begun (c ∷ left))
front_more begun bytes left byte c same not0 not10 rest =
    let all = lines_more begun byte bytes not0 not10 in (
      rest.0,
      subst (λ ls. rest.0 ≤ length ls) (sym all) rest.1,
      ap (λ b. lines_after begun (b ∷ left)) same ∙ lines_more begun byte left not0 not10
          ∙ rest.2 ∙ ap (take rest.0) (sym all),
    )

-- a torn state of bytes has a front of their lines
lines_torn : (begun bytes left : List ℕ) → IsTorn bytes left
    → IsFront (lines_after begun bytes) (lines_after begun left)
lines_torn begun bytes [] torn = (0, omega arith, refl)
lines_torn begun [] (c ∷ left) torn = absurd torn
lines_torn begun (byte ∷ bytes) (c ∷ left) torn = ⊎_elim
    (λ same. elim (first_byte byte) [
      | Zero is ↦ front_zeroed begun bytes left byte c (same ∙ is)
      | End is ↦ front_end begun bytes left byte c same is (lines_torn [] bytes left torn.1)
      | Other not0 not10 ↦ front_more begun bytes left byte c same not0 not10
          (lines_torn (begun ++ byte ∷ []) bytes left torn.1)
    ])
    (front_zeroed begun bytes left byte c) torn.0

-- an interrupted append to a text leaves its lines and a front of the new ones
pub torn_append : (old added c : List ℕ) → IsText old → TornAppend added old c
    → IsBetween (lines_in old) (lines_in added) (lines_in c)
torn_append old added c text torn =
    let front = lines_torn [] added torn.0 torn.1 in (
      front.0,
      front.1,
      ap lines_in torn.2 ∙ lines_in-append old torn.0 text
          ∙ ap (λ ls. lines_in old ++ ls) front.2,
    )

-- no append leaves the old lines
pub none_added : (old added : List (List ℕ)) → IsBetween old added old
none_added old added = (0, omega arith, sym (append-nil old))

-- lines, if there are any, are longer than what has begun
none_or_longer : (begun bytes : List ℕ) → (lines_after begun bytes ≡ [])
    ⊎ (suc (length begun) ≤ length (text_of (lines_after begun bytes)))
unfolding text_of
none_or_longer begun [] = inl refl
none_or_longer begun (byte ∷ bytes) = elim (first_byte byte) [
  | Zero is ↦ inl (lines_zero begun byte bytes is)
  | End is ↦ inr (subst (λ ls. suc (length begun) ≤ length (text_of ls))
      (sym (lines_end begun byte bytes is))
      (omega (arith, length-append begun (10 ∷ text_of (lines_after [] bytes)))))
  | Other not0 not10 ↦ ⊎_elim
      (λ none. inl (lines_more begun byte bytes not0 not10 ∙ none))
      (λ longer. inr (subst (λ ls. suc (length begun) ≤ length (text_of ls))
      (sym (lines_more begun byte bytes not0 not10))
      (omega (arith, longer, length-append begun (byte ∷ [])))))
      (none_or_longer (begun ++ byte ∷ []) bytes)
]

-- a front of bytes that is no shorter than their lines has the same lines
lines_kept : (n : ℕ) (begun bytes : List ℕ)
    → length (text_of (lines_after begun bytes)) ≤ length begun + n
    → lines_after begun (take n bytes) ≡ lines_after begun bytes
unfolding text_of
lines_kept zero begun [] le = refl
lines_kept (suc n) begun [] le = refl
lines_kept zero begun (byte ∷ bytes) le = ⊎_elim (λ none. sym none)
    (λ longer. absurd (omega (arith, le, longer))) (none_or_longer begun (byte ∷ bytes))
lines_kept (suc n) begun (byte ∷ bytes) le = elim (first_byte byte) [
  | Zero is ↦ lines_zero begun byte (take n bytes) is ∙ sym (lines_zero begun byte bytes is)
  | End is ↦
      let size = length-append begun (10 ∷ text_of (lines_after [] bytes)) in
      let whole = ap (λ ls. length (text_of ls)) (lines_end begun byte bytes is) in
      lines_end begun byte (take n bytes) is
      ∙ ap (λ ls. begun ∷ ls) (lines_kept n [] bytes (omega (arith, le, size, whole)))
      ∙ sym (lines_end begun byte bytes is)
  | Other not0 not10 ↦
      let size = length-append begun (byte ∷ []) in
      let whole = ap (λ ls. length (text_of ls)) (lines_more begun byte bytes not0 not10) in
      lines_more begun byte (take n bytes) not0 not10
      ∙ lines_kept n (begun ++ byte ∷ []) bytes (omega (arith, le, size, whole))
      ∙ sym (lines_more begun byte bytes not0 not10)
]

-- an interrupted cut after the lines leaves them
pub torn_cut : (len : ℕ) (old c : List ℕ) → len ≡ length (text_of (lines_in old))
    → TornCut len old c → lines_in c ≡ lines_in old
torn_cut len old c is torn =
    ap lines_in torn.2 ∙ lines_kept torn.0 [] old (omega (arith, is, torn.1))
