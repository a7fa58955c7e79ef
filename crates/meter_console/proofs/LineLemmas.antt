-- A line that is read byte by byte.
use Rattle.std.proofs.Common.{◌≡◌, ◌≢◌, ℕ, ◌+◌, ◌<◌, ◌≤◌, Bool, true, false, List, [], ◌∷◌, ◌++◌, length, length-append, Option, Some, None, refl, sym, ap, ◌∙◌, subst, arith, ne_eqb, append_assoc, append-nil}
use Rattle.std.proofs.KnownBytes.{Consumes-nil, Consumes-trans}
use Rattle.std.proofs.lemmas.List.Elements.{All-append, All-cons, All-nil}
use Rattle.std.proofs.lemmas.List.Splits.{slice_split_none}
use Rattle.std.specs.Io.KnownBytes.{Consumes, IsAtEnd}
use Rattle.text_lines.specs.Lines.{lines_of, all_but_last}
use Rattle.text_lines.proofs.Cuts.{is_byte}
use Rattle.text_lines.proofs.LinesLemmas.{lines_of-line}
use Rattle.text_lines.proofs.WordsLemmas.{HasNo}
use Rattle.meter_console.specs.Lines.{TakesLine, SkipsLine}

-- bytes without the byte 0A were read, which are in `line` unless they are too many
pub record Partial (known left : Option (List ℕ)) (line : List ℕ) (is_long : Bool) : Type 0 where
  pub bytes : List ℕ
  pub read : Consumes known left bytes
  pub none : HasNo 10 bytes
  pub within : length line < 8192
  pub kept : is_long ≡ false → line ≡ bytes
  pub full : is_long ≡ true → 8192 ≤ length line + 1
  pub long : is_long ≡ true → 8192 ≤ length bytes

-- nothing was read
pub starts : (known : Option (List ℕ)) (line : List ℕ) → line ≡ [] → Partial known known line false
starts known line e = record {
  bytes = [];
  read = Consumes-nil known;
  none = All-nil (λ b. is_byte 10 b ≡ false);
  within = omega (arith, ap length e);
  kept = λ _. e;
  full = λ is. absurd (cc is);
  long = λ is. absurd (cc is);
}

-- bytes without 0A, followed by a byte other than 0A, have no 0A
none_more : (bytes : List ℕ) (byte : ℕ) → HasNo 10 bytes → byte ≢ 10 → HasNo 10 (bytes ++ byte ∷ [])
none_more bytes byte none ne =
    All-append (λ b. is_byte 10 b ≡ false) bytes (byte ∷ []) none
    (All-cons (λ b. is_byte 10 b ≡ false) byte [] (ne_eqb byte 10 ne)
    (All-nil (λ b. is_byte 10 b ≡ false)))

-- a byte was read and kept
more : (known left left' : Option (List ℕ)) (line : List ℕ) (is_long : Bool) (byte : ℕ)
    → Partial known left line is_long → Consumes left left' (byte ∷ []) → byte ≢ 10
    → length line + 1 < 8192
    → Partial known left' (line ++ byte ∷ []) is_long
more known left left' line true byte p c ne room = absurd (omega (arith, p.full refl))
more known left left' line false byte p c ne room = record {
  bytes = p.bytes ++ byte ∷ [];
  read = Consumes-trans known left left' p.bytes (byte ∷ []) p.read c;
  none = none_more p.bytes byte p.none ne;
  within = omega (arith, length-append line (byte ∷ []));
  kept = λ _. ap (λ (l : List ℕ). l ++ byte ∷ []) (p.kept refl);
  full = λ is. absurd (cc is);
  long = λ is. absurd (cc is);
}

pub keeps : {known left left' : Option (List ℕ)} {line line' : List ℕ}
    {is_long is_long' : Bool} {byte : ℕ}
    → Partial known left line is_long → Consumes left left' (byte ∷ []) → byte ≢ 10
    → length line + 1 < 8192
    → line' ≡ line ++ byte ∷ [] → is_long' ≡ is_long → Partial known left' line' is_long'
keeps {known = known} {left = left} {left' = left'} {line = line} {line' = line'}
    {is_long = is_long} {byte = byte} p c ne room e same =
    subst (λ (b : Bool). Partial known left' line' b) (sym same)
    (subst (λ (l : List ℕ). Partial known left' l is_long) (sym e)
    (more known left left' line is_long byte p c ne room))

-- a byte was read that does not fit into the buffer
skip : (known left left' : Option (List ℕ)) (line : List ℕ) (is_long : Bool) (byte : ℕ)
    → Partial known left line is_long → Consumes left left' (byte ∷ []) → byte ≢ 10
    → 8192 ≤ length line + 1
    → Partial known left' line true
skip known left left' line is_long byte p c ne none = record {
  bytes = p.bytes ++ byte ∷ [];
  read = Consumes-trans known left left' p.bytes (byte ∷ []) p.read c;
  none = none_more p.bytes byte p.none ne;
  within = p.within;
  kept = λ is. absurd (cc is);
  full = λ _. none;
  long = λ _. omega (arith, length-append p.bytes (byte ∷ []), many is_long refl);
}
  where
    many : (b : Bool) → is_long ≡ b → 8192 ≤ length p.bytes + 1
    many true e = omega (arith, p.long e)
    many false e = omega (arith, ap length (p.kept e))

pub skips : {known left left' : Option (List ℕ)} {line line' : List ℕ}
    {is_long is_long' : Bool} {byte : ℕ}
    → Partial known left line is_long → Consumes left left' (byte ∷ []) → byte ≢ 10
    → 8192 ≤ length line + 1
    → line' ≡ line → is_long' ≡ true → Partial known left' line' is_long'
skips {known = known} {left = left} {left' = left'} {line = line} {line' = line'}
    {is_long = is_long} {byte = byte} p c ne none e same =
    subst (λ (b : Bool). Partial known left' line' b) (sym same)
    (subst (λ (l : List ℕ). Partial known left' l true) (sym e)
    (skip known left left' line is_long byte p c ne none))

-- the bytes that were read are the first of the known bytes
record Begins (input bytes : List ℕ) (left : Option (List ℕ)) : Type 0 where
  rest : List ℕ
  left_is : left ≡ Some rest
  input_is : input ≡ bytes ++ rest

begins : (known left : Option (List ℕ)) (input bytes : List ℕ) → known ≡ Some input
    → Consumes known left bytes → Begins input bytes left
begins None left input bytes e c = absurd (cc e)
begins (Some xs) None input bytes e c = absurd c
begins (Some xs) (Some ys) input bytes e c =
    let same : xs ≡ input = cc in
    record { rest = ys; left_is = refl; input_is = sym same ∙ c }

-- the byte 0A was read after bytes without one
ends : (known left left' : Option (List ℕ)) (line : List ℕ) (is_long : Bool)
    (p : Partial known left line is_long) → Consumes left left' (10 ∷ [])
    → (input : List ℕ) → known ≡ Some input → (rest : List ℕ) × (left' ≡ Some rest)
    × (lines_of input ≡ p.bytes ∷ lines_of rest)
ends known left left' line is_long p c input e =
    let b = begins known left' input (p.bytes ++ 10 ∷ []) e
    (Consumes-trans known left left' p.bytes (10 ∷ []) p.read c) in (
      b.rest,
      b.left_is,
      ap lines_of (b.input_is ∙ append_assoc p.bytes (10 ∷ []) b.rest)
          ∙ lines_of-line p.bytes b.rest p.none,
    )

-- a whole line was read
pub takes : {known left left' : Option (List ℕ)} {line : List ℕ} {is_long : Bool} {byte : ℕ}
    → Partial known left line is_long → Consumes left left' (byte ∷ []) → byte ≡ 10
    → is_long ≡ false
    → (input : List ℕ) → known ≡ Some input → TakesLine input line left'
takes {known = known} {left = left} {left' = left'} {line = line} {is_long = is_long} p c is short
    input e =
    let (rest, left_is, lines) = ends known left left' line is_long p
    (subst (λ (b : ℕ). Consumes left left' (b ∷ [])) is c) input e in
    record {
      rest = rest;
      left_is = left_is;
      lines = lines
          ∙ ap (λ (l : List ℕ). l ∷ lines_of rest) (sym (p.kept short));
      short =
          omega (arith, p.within);
    }

-- a line that is too long was skipped
pub passes : {known left left' : Option (List ℕ)} {line : List ℕ} {is_long : Bool} {byte : ℕ}
    → Partial known left line is_long → Consumes left left' (byte ∷ []) → byte ≡ 10 → is_long ≡ true
    → (input : List ℕ) → known ≡ Some input → SkipsLine input left'
passes {known = known} {left = left} {left' = left'} {line = line} {is_long = is_long} p c is long
    input e =
    let (rest, left_is, lines) = ends known left left' line is_long p
    (subst (λ (b : ℕ). Consumes left left' (b ∷ [])) is c) input e in
    record {
      line = p.bytes;
      rest = rest;
      left_is = left_is;
      lines = lines;
      long = omega (arith, p.long long);
    }

-- bytes without the byte 0A have no line
no_lines : (bytes : List ℕ) → HasNo 10 bytes → lines_of bytes ≡ []
unfolding lines_of
no_lines bytes none = ap all_but_last (slice_split_none (is_byte 10) bytes none)

-- the input has ended without a line
pub ended : {known left : Option (List ℕ)} {line : List ℕ} {is_long : Bool}
    → Partial known left line is_long → IsAtEnd left
    → (input : List ℕ) → known ≡ Some input → lines_of input ≡ []
ended {known = known} {left = left} p at_end input e =
    let b = begins known left input p.bytes e p.read in
    let none : b.rest ≡ [] = subst IsAtEnd b.left_is at_end in
    ap lines_of (b.input_is ∙ ap (λ (l : List ℕ). p.bytes ++ l) none) ∙ alone
  where
    alone : lines_of (p.bytes ++ []) ≡ []
    alone = rw append-nil (no_lines p.bytes p.none)
