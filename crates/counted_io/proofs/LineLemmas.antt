-- Lines that are read piece by piece.
use Rattle.std.proofs.Common.{◌≡◌, ◌≢◌, ℕ, ◌+◌, ◌-◌, ◌<◌, ◌≤◌, Bool, true, false, ◌==◌, cond, List, [], ◌∷◌, ◌++◌, All, Option, Some, None, IfSome, length, take, get_or, sym, ap, subst, ◌∙◌, arith, append_assoc, append-nil, take_all, length-append}
use Rattle.std.proofs.lemmas.List.{take_more}
use Rattle.std.proofs.lemmas.List.Elements.{All-append}
use Rattle.std.proofs.BufReadLemmas.{take_through-append, Consumes_through}
use Rattle.std.proofs.KnownBytes.{Consumes-nil, Consumes-trans}
use Rattle.std.proofs.Transfers.{StopsAt-append}
use Rattle.std.specs.Io.{StopsAt}
use Rattle.std.specs.Io.BufRead.{take_through}
use Rattle.std.specs.Io.KnownBytes.{Consumes}
use Rattle.counted_io.specs.Lines.{AddsPart, AddsPiece, ReadsLine}

-- Bytes that were read, none of which is 0A.
pub record ReadsPart (left : Option (List ℕ)) (line : List ℕ) (left' : Option (List ℕ))
    (line' : List ℕ) : Type 0 where
  pub bytes : List ℕ
  pub added : line' ≡ line ++ bytes
  pub read : Consumes left left' bytes
  pub inside : All (λ byte. byte ≢ 10) bytes

pub no_part : (left : Option (List ℕ)) (line : List ℕ) → ReadsPart left line left line
no_part left line = record {
  bytes = [];
  added = sym (append-nil line);
  read = Consumes-nil left;
  inside = λ k d below. absurd (omega (arith, below));
}

-- a Boolean is not both true and false
pub one_answer : (b : Bool) → b ≡ true → b ≡ false → ⊥
one_answer b is not_so = let never = sym is ∙ not_so in absurd cc

-- ---- one more piece

added_on : (line one two bytes piece : List ℕ) → one ≡ line ++ bytes → two ≡ one ++ piece → two
    ≡ line ++ (bytes ++ piece)
added_on line one two bytes piece first then = then ∙ ap (λ (xs : List ℕ). xs ++ piece) first
    ∙ append_assoc line bytes piece

pub part_more : (left one left' : Option (List ℕ)) (line mid line' : List ℕ) (is_done : Bool)
    → ReadsPart left line one mid
    → AddsPiece one mid is_done left' line' → is_done ≡ false → ReadsPart left line left' line'
part_more left one left' line mid line' is_done part piece not_done = record {
  bytes = part.bytes ++ piece.piece;
  added = added_on line mid line' part.bytes piece.piece part.added piece.added;
  read = Consumes-trans left one left' part.bytes piece.piece part.read piece.read;
  inside = All-append (λ byte. byte ≢ 10) part.bytes piece.piece part.inside
      (piece.inside not_done);
}

pub line_done : (left one left' : Option (List ℕ)) (line mid line' : List ℕ) (is_done : Bool)
    (count : ℕ) → ReadsPart left line one mid
    → AddsPiece one mid is_done left' line' → is_done ≡ true → count ≡ length line' - length line
    → ReadsLine left line count left' line'
line_done left one left' line mid line' is_done count part piece done counted =
    let through = Consumes_through 10 left one left' part.bytes piece.piece part.read part.inside
    piece.read piece.stops (piece.ends done) (piece.at_end done) in
    let grown = added_on line mid line' part.bytes piece.piece part.added piece.added in record {
      bytes = part.bytes ++ piece.piece;
      added = grown;
      read = Consumes-trans left one left' part.bytes piece.piece part.read piece.read;
      counted = omega (
        arith,
        counted,
        ap (λ (xs : List ℕ). length xs) grown,
        length-append line (part.bytes ++ piece.piece),
      );
      stops = StopsAt-append part.bytes piece.piece 10 part.inside piece.stops;
      through = through.0;
      rest = through.1;
    }

-- ---- a line that was not read to its end

-- one more piece was appended, which may end the line
pub part_grown : (left one left' : Option (List ℕ)) (line mid line' : List ℕ) (is_done : Bool)
    → ReadsPart left line one mid → AddsPiece one mid is_done left' line'
    → AddsPart left line left' line'
part_grown left one left' line mid line' is_done part piece = record {
  bytes = part.bytes ++ piece.piece;
  added = added_on line mid line' part.bytes piece.piece part.added piece.added;
  read = Consumes-trans left one left' part.bytes piece.piece part.read piece.read;
  stops = StopsAt-append part.bytes piece.piece 10 part.inside piece.stops;
}

-- ---- a line that is too long

one_at_least : (byte : ℕ) (bytes : List ℕ) (b : Bool)
    → 0 < length (cond b (byte ∷ []) (byte ∷ take_through 10 bytes))
one_at_least byte bytes true = omega arith
one_at_least byte bytes false = omega arith

-- if only the last of these bytes can be 0A, they are no longer than the line that begins with them
line_long : (bytes rest : List ℕ) → StopsAt bytes 10
    → length bytes ≤ length (take_through 10 (bytes ++ rest))
line_long [] rest stops = omega arith
line_long (x ∷ xs) rest stops =
    let bytes = x ∷ xs in
    let front = take (length bytes - 1) bytes in
    let last = get_or bytes (length bytes - 1) 0 in
    let split : bytes ≡ front ++ last ∷ [] = sym
    (take_all (length bytes - 1 + 1) bytes (omega arith))
    ∙ take_more bytes (length bytes - 1) 0 (omega arith) in
    let joined : bytes ++ rest ≡ front ++ last ∷ rest = ap (λ (l : List ℕ). l ++ rest) split
    ∙ append_assoc front (last ∷ []) rest in
    let taken : take_through 10 (bytes ++ rest) ≡ front ++ take_through 10 (last ∷ rest) =
    ap (take_through 10) joined ∙ take_through-append 10 front (last ∷ rest) stops in
    let one : 0 < length (take_through 10 (last ∷ rest)) = one_at_least last rest (last == 10) in
    omega (
      arith,
      ap (λ (l : List ℕ). length l) split,
      ap (λ (l : List ℕ). length l) taken,
      length-append front (last ∷ []),
      length-append front (take_through 10 (last ∷ rest)),
      one,
    )

long_by : (left left' : Option (List ℕ)) (bytes : List ℕ) (limit so_far : ℕ)
    → Consumes left left' bytes → StopsAt bytes 10 → limit < so_far + length bytes
    → IfSome left (λ all. limit < so_far + length (take_through 10 all))
long_by None left' bytes limit so_far read stops over = tt
long_by (Some all) None bytes limit so_far read stops over = absurd read
long_by (Some all) (Some rest) bytes limit so_far read stops over =
    subst (λ (l : List ℕ). limit < so_far + length (take_through 10 l)) (sym read)
    (omega (arith, over, line_long bytes rest stops))

pub too_long : (left one left' : Option (List ℕ)) (line mid line' : List ℕ) (is_done : Bool)
    (limit : ℕ) → ReadsPart left line one mid
    → AddsPiece one mid is_done left' line' → limit < length line'
    → IfSome left (λ all. limit < length line + length (take_through 10 all))
too_long left one left' line mid line' is_done limit part piece over =
    let bytes = part.bytes ++ piece.piece in
    let grown = added_on line mid line' part.bytes piece.piece part.added piece.added in
    long_by left left' bytes limit (length line)
    (Consumes-trans left one left' part.bytes piece.piece part.read piece.read)
    (StopsAt-append part.bytes piece.piece 10 part.inside piece.stops)
    (omega (arith, over, ap (λ (xs : List ℕ). length xs) grown, length-append line bytes))
