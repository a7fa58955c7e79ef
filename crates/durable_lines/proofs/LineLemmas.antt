-- The lines of bytes: their text is a front of the bytes, and the lines of that text are the same.
use Rattle.std.proofs.Common.{◌≡◌, ◌≢◌, inl, inr, ℕ, ◌≤◌, List, [], ◌∷◌, ◌++◌, length, take, refl}
use Rattle.std.proofs.Common.{sym, ◌∙◌, ap, subst, arith, append_assoc, length-append}
use Rattle.std.proofs.lemmas.Bool.{cases_eq, ne_eqb}
use Rattle.std.proofs.lemmas.List.{append-nil}
use Rattle.std.specs.List.{AllByRecursion}
use Rattle.std.proofs.Math.Seq.{take-append_seam}
use Rattle.durable_lines.specs.Lines.{lines_after, lines_in, text_of, IsPlain, IsText}

-- the first byte 0 ends the lines
pub lines_zero : (begun : List ℕ) (byte : ℕ) (rest : List ℕ) → byte ≡ 0
    → lines_after begun (byte ∷ rest) ≡ []
lines_zero begun byte rest is = ap (λ b. lines_after begun (b ∷ rest)) is

-- a byte 0A ends a line
pub lines_end : (begun : List ℕ) (byte : ℕ) (rest : List ℕ) → byte ≡ 10
    → lines_after begun (byte ∷ rest) ≡ begun ∷ lines_after [] rest
lines_end begun byte rest is = ap (λ b. lines_after begun (b ∷ rest)) is

-- any other byte belongs to the line
pub lines_more : (begun : List ℕ) (byte : ℕ) (rest : List ℕ) → byte ≢ 0 → byte ≢ 10
    → lines_after begun (byte ∷ rest) ≡ lines_after (begun ++ byte ∷ []) rest
lines_more begun byte rest not0 not10 = rw (ne_eqb byte 0 not0) (rw (ne_eqb byte 10 not10) refl)

-- what the first byte is to a line
pub data FirstByte (byte : ℕ) : Type 0 where
  Zero : byte ≡ 0 → FirstByte byte
  End : byte ≡ 10 → FirstByte byte
  Other : byte ≢ 0 → byte ≢ 10 → FirstByte byte

pub first_byte : (byte : ℕ) → FirstByte byte
first_byte byte = elim (cases_eq byte 0) [
  | inl is ↦ Zero is
  | inr not0 ↦ elim (cases_eq byte 10) [
    | inl is ↦ End is
    | inr not10 ↦ Other not0 not10
  ]
]

-- bytes are the text of their lines, followed by a rest
pub record Parts (begun bytes : List ℕ) : Type 0 where
  pub rest : List ℕ
  pub split : begun ++ bytes ≡ text_of (lines_after begun bytes) ++ rest

pub parts : (begun bytes : List ℕ) → Parts begun bytes
unfolding text_of
parts begun [] = record { rest = begun; split = append-nil begun }
parts begun (byte ∷ bytes) = elim (first_byte byte) [
  | Zero is ↦ record {
    rest = begun ++ byte ∷ bytes;
    split = ap (λ ls. text_of ls ++ (begun ++ byte ∷ bytes)) (sym (lines_zero begun byte bytes is));
  }
  | End is ↦ let p = parts [] bytes in record {
    rest = p.rest;
    split = (λ i. begun ++ is i ∷ p.split i)
        ∙ sym (append_assoc begun (10 ∷ text_of (lines_after [] bytes)) p.rest)
        ∙ ap (λ ls. text_of ls ++ p.rest) (sym (lines_end begun byte bytes is));
  }
  | Other not0 not10 ↦ let p = parts (begun ++ byte ∷ []) bytes in record {
    rest = p.rest;
    split = sym (append_assoc begun (byte ∷ []) bytes) ∙ p.split
        ∙ ap (λ ls. text_of ls ++ p.rest) (sym (lines_more begun byte bytes not0 not10));
  }
]

-- the text of the lines is no longer than the bytes
pub length-text_of-lines_in : (bytes : List ℕ) → length (text_of (lines_in bytes)) ≤ length bytes
length-text_of-lines_in bytes =
    let p = parts [] bytes in
    omega (arith, ap length p.split, length-append (text_of (lines_in bytes)) p.rest)

-- a plain line is read as one, whatever bytes follow its end
line_first : (begun line rest : List ℕ) → IsPlain line
    → lines_after begun (line ++ 10 ∷ rest) ≡ (begun ++ line) ∷ lines_after [] rest
line_first begun [] rest plain = ap (λ l. l ∷ lines_after [] rest) (sym (append-nil begun))
line_first begun (byte ∷ line) rest plain =
    lines_more begun byte (line ++ 10 ∷ rest) plain.0.0 plain.0.1
    ∙ line_first (begun ++ byte ∷ []) line rest plain.1
    ∙ ap (λ l. l ∷ lines_after [] rest) (append_assoc begun (byte ∷ []) line)

-- the text of plain lines is read as these lines, whatever bytes follow it
pub lines_in-text_of : (lines : List (List ℕ)) (rest : List ℕ) → AllByRecursion IsPlain lines
    → lines_in (text_of lines ++ rest) ≡ lines ++ lines_in rest
unfolding text_of
lines_in-text_of [] rest plain = refl
lines_in-text_of (line ∷ lines) rest plain =
    ap lines_in (append_assoc line (10 ∷ text_of lines) rest)
    ∙ line_first [] line (text_of lines ++ rest) plain.0
    ∙ ap (λ ls. line ∷ ls) (lines_in-text_of lines rest plain.1)

plain_push : (line : List ℕ) (byte : ℕ) → IsPlain line → byte ≢ 0 → byte ≢ 10
    → IsPlain (line ++ byte ∷ [])
plain_push [] byte plain not0 not10 = ((not0, not10), tt)
plain_push (first ∷ line) byte plain not0 not10 =
    (plain.0, plain_push line byte plain.1 not0 not10)

-- the lines of bytes are plain
pub plain_lines : (begun bytes : List ℕ) → IsPlain begun
    → AllByRecursion IsPlain (lines_after begun bytes)
plain_lines begun [] plain = tt
plain_lines begun (byte ∷ bytes) plain = elim (first_byte byte) [
  | Zero is ↦ subst (AllByRecursion IsPlain) (sym (lines_zero begun byte bytes is)) tt
  | End is ↦ subst (AllByRecursion IsPlain) (sym (lines_end begun byte bytes is))
      (plain, plain_lines [] bytes tt)
  | Other not0 not10 ↦ subst (AllByRecursion IsPlain) (sym (lines_more begun byte bytes not0 not10))
      (plain_lines (begun ++ byte ∷ []) bytes (plain_push begun byte plain not0 not10))
]

-- the text of the lines of bytes has these lines
pub lines_in-lines : (bytes rest : List ℕ)
    → lines_in (text_of (lines_in bytes) ++ rest) ≡ lines_in bytes ++ lines_in rest
lines_in-lines bytes rest = lines_in-text_of (lines_in bytes) rest (plain_lines [] bytes tt)

pub lines_in-same : (bytes : List ℕ) → lines_in (text_of (lines_in bytes)) ≡ lines_in bytes
lines_in-same bytes =
    ap lines_in (sym (append-nil (text_of (lines_in bytes)))) ∙ lines_in-lines bytes []
    ∙ append-nil (lines_in bytes)

pub text_of-append : (lines more : List (List ℕ))
    → text_of (lines ++ more) ≡ text_of lines ++ text_of more
unfolding text_of
text_of-append [] more = refl
text_of-append (line ∷ lines) more =
    ap (λ t. line ++ 10 ∷ t) (text_of-append lines more)
    ∙ sym (append_assoc line (10 ∷ text_of lines) (text_of more))

-- a text followed by bytes has its own lines, followed by those of the bytes
pub lines_in-append : (text rest : List ℕ) → IsText text
    → lines_in (text ++ rest) ≡ lines_in text ++ lines_in rest
lines_in-append text rest is =
    ap (λ t. lines_in (t ++ rest)) is ∙ lines_in-lines text rest

-- two texts, one after the other, are a text
pub is_text-append : (text more : List ℕ) → IsText text → IsText more → IsText (text ++ more)
is_text-append text more is more_is =
    (λ i. is i ++ more_is i) ∙ sym (text_of-append (lines_in text) (lines_in more))
    ∙ ap text_of (sym (lines_in-append text more is))

-- bytes as long as the text of their lines are that text
pub is_text-length : (bytes : List ℕ) → length (text_of (lines_in bytes)) ≡ length bytes
    → IsText bytes
is_text-length bytes same =
    let p = parts [] bytes in
    let sizes = length-append (text_of (lines_in bytes)) p.rest in
    let none : p.rest ≡ [] = nothing p.rest (omega (arith, same, ap length p.split, sizes)) in
    p.split ∙ ap (λ r. text_of (lines_in bytes) ++ r) none ∙ append-nil (text_of (lines_in bytes))
  where
    nothing : (rest : List ℕ) → length rest ≡ 0 → rest ≡ []
    nothing [] e = refl
    nothing (r ∷ rest) e = absurd (omega (arith, e))

-- the front of the bytes as long as the text is the text
pub take-text : (bytes : List ℕ)
    → take (length (text_of (lines_in bytes))) bytes ≡ text_of (lines_in bytes)
take-text bytes =
    let p = parts [] bytes in
    ap (take (length (text_of (lines_in bytes)))) p.split
    ∙ take-append_seam (text_of (lines_in bytes)) p.rest
