-- The laws of the blocks of a text.
use Rattle.std.proofs.Common.{◌≡◌, ℕ, zero, suc, ◌+◌, ◌*◌, ◌<◌, ◌≤◌, Bool, true, false, cond, List, [], ◌∷◌, ◌++◌, length, take, drop, Some, refl, sym, subst, ◌∙◌, ap, arith, append_assoc, length-append, length-drop}
use Rattle.std.specs.Prelude.{nat_le}
use Rattle.std.proofs.Math.Seq.{take-append_seam, drop-append_seam}
use Rattle.std.proofs.lemmas.Bool.{leb-true, leb-false, le-leb, lt-leb}
use Rattle.std.proofs.lemmas.List.{length-take-le, append-nil, take-append-drop, drop-drop}
use Rattle.xdlms_blocks.specs.declared.blocks.Piece.{Piece}
use Rattle.xdlms_blocks.specs.Limits.{max_joined}
use Rattle.xdlms_blocks.specs.Transfer.{Sending}
use Rattle.xdlms_blocks.specs.Sending.{block_after, is_last, after_next}
use Rattle.xdlms_blocks.specs.Blocks.{AreBlocks, last_block, full_block, joined_bytes, new_sending, pieces_in, pieces_of, new_joining, Joins, at_last, goes_on}
use Rattle.xdlms_blocks.proofs.SendingLemmas.{take_whole}

-- these pieces are the blocks of the rest of a text
pub record AreRest (size number : ℕ) (pieces : List Piece) (rest : List ℕ) : Type 0 where
  pub blocks : AreBlocks size number pieces
  pub whole : joined_bytes pieces ≡ rest

-- the next piece and those after it, by whether the next one is the last
rest_by : (last : Bool) (size number : ℕ) (text : List ℕ) (later : List Piece) → 0 < size
    → number * size < length text
    → nat_le (length text) ((number + 1) * size) ≡ last
    → (last ≡ false → AreRest size (number + 1) later (drop ((number + 1) * size) text))
    → AreRest size number (record {
      last = last;
      number = number
          + 1;
      raw = block_after number size text;
    } ∷ cond last [] later) (drop (number * size) text)
rest_by true size number text later some more is_last rest =
    let within : length text ≤ (number + 1) * size = leb-true _ _ is_last in
    let left : length (drop (number * size) text) ≤ size =
    omega (arith, length-drop (number * size) text) in
    let all : block_after number size text ≡ drop (number * size) text =
    take_whole size (drop (number * size) text) left in
    record {
      blocks = last_block number (block_after number size text)
          (omega (arith, ap length all, length-drop (number * size) text))
          (omega (arith, ap length all));
      whole = append-nil (block_after number size text) ∙ all;
    }
rest_by false size number text later some more is_last rest =
    let beyond : (number + 1) * size < length text = leb-false _ _ is_last in
    let there : size ≤ length (drop (number * size) text) =
    omega (arith, length-drop (number * size) text) in
    let next : number * size + size ≡ (number + 1) * size = omega arith in
    let r = rest refl in
    record {
      blocks = full_block number (block_after number size text) later
          (length-take-le size (drop (number * size) text) there) r.blocks;
      whole =
          ap (λ (xs : List ℕ). block_after number size text ++ xs)
          (r.whole ∙ ap (λ (n : ℕ). drop n text) (sym next)
          ∙ sym (drop-drop size (number * size) text))
          ∙ take-append-drop size (drop (number * size) text);
    }

-- the pieces returned from a state on are the blocks of the rest of the text
rest_in : (most : ℕ) (s : Sending) → 0 < s.size → s.number * s.size < length s.text
    → length s.text ≤ s.number * s.size + most
    → AreRest s.size s.number (pieces_in most s) (drop (s.number * s.size) s.text)
unfolding pieces_in
rest_in zero s some more enough = absurd (omega arith)
rest_in (suc most) s some more enough =
    rest_by (is_last s) s.size s.number s.text (pieces_in most (after_next s)) some more refl
    (λ further. let beyond : (s.number + 1) * s.size < length s.text = leb-false _ _ further in
    rest_in most (after_next s) some beyond (omega arith))

-- the pieces of a text are its blocks
rest_of_all : (text : List ℕ) (size : ℕ) → 0 < length text → 0 < size
    → AreRest size 0 (pieces_of text size) text
unfolding pieces_of
rest_of_all text size some fits =
    let none : 0 * size ≡ 0 = omega arith in
    subst (λ (n : ℕ). AreRest size 0 (pieces_in (length text) (new_sending text size))
    (drop n text)) none
    (rest_in (length text) (new_sending text size) fits (omega arith) (omega arith))

pub is_cut : (text : List ℕ) (size : ℕ) → 0 < length text → 0 < size
    → AreBlocks size 0 (pieces_of text size)
is_cut text size some fits = (rest_of_all text size some fits).blocks

pub is_whole : (text : List ℕ) (size : ℕ) → 0 < length text → 0 < size
    → joined_bytes (pieces_of text size) ≡ text
is_whole text size some fits = (rest_of_all text size some fits).whole

-- blocks that arrive in order are joined
joins_from : (size number : ℕ) (pieces : List Piece) → AreBlocks size number pieces
    → (bytes : List ℕ) → length bytes + length (joined_bytes pieces) ≤ max_joined
    → Joins (record { number = number; bytes = bytes; is_open = true }) pieces (bytes
    ++ joined_bytes pieces)
joins_from size _ _ (last_block number raw some fits) bytes short =
    let same : raw ++ [] ≡ raw = append-nil raw in
    at_last _ _ _ (record { going = refl; next = refl; short = omega (arith, ap length same) })
    (ap (λ (xs : List ℕ). Some (bytes ++ xs)) (sym same))
joins_from size _ _ (full_block number raw pieces full later) bytes short =
    let total : length (raw ++ joined_bytes pieces) ≡ length raw + length (joined_bytes pieces) =
    length-append raw (joined_bytes pieces) in
    let same : (bytes ++ raw) ++ joined_bytes pieces ≡ bytes ++ (raw ++ joined_bytes pieces) =
    append_assoc bytes raw (joined_bytes pieces) in
    goes_on _ _ _ _ (record { going = refl; next = refl; short = omega arith }) refl
    (subst (Joins (record { number = number + 1; bytes = bytes ++ raw; is_open = true })
    pieces) same
    (joins_from size (number + 1) pieces later (bytes ++ raw)
    (omega (arith, length-append bytes raw))))

pub is_joined : (size : ℕ) (pieces : List Piece) → AreBlocks size 0 pieces
    → length (joined_bytes pieces) ≤ max_joined → Joins new_joining pieces (joined_bytes pieces)
is_joined size pieces blocks short = joins_from size 0 pieces blocks [] (omega arith)

-- one piece with a given mark and part
piece_of : Bool → ℕ → List ℕ → Piece
piece_of last number raw = record { last = last; number = number; raw = raw }

-- pieces that end here, and pieces that do not
ends_here : (last : Bool) (number : ℕ) (raw part : List ℕ) (later : List Piece) → last ≡ true → raw
    ≡ part
    → piece_of last number raw ∷ cond last [] later ≡ piece_of true number part ∷ []
ends_here true number raw part later is e = ap (λ (xs : List ℕ). piece_of true number xs ∷ []) e
ends_here false number raw part later is e = absurd cc

goes_further : (last : Bool) (number : ℕ) (raw part : List ℕ) (later pieces : List Piece) → last
    ≡ false → raw ≡ part → later ≡ pieces
    → piece_of last number raw ∷ cond last [] later ≡ piece_of false number part ∷ pieces
goes_further true number raw part later pieces is e same = absurd cc
goes_further false number raw part later pieces is e same = cc

-- blocks have at least one byte
some_joined : (size number : ℕ) (pieces : List Piece) → 0 < size → AreBlocks size number pieces
    → 0 < length (joined_bytes pieces)
some_joined size _ _ fits (last_block number raw some within) = omega (arith, length-append raw [])
some_joined size _ _ fits (full_block number raw pieces full later) =
    omega (arith, length-append raw (joined_bytes pieces))

-- the blocks of the rest of a text are the pieces that a transfer returns
only_in : (size number : ℕ) (pieces : List Piece) → 0 < size → AreBlocks size number pieces
    → (most : ℕ) (text : List ℕ) (going : Bool)
    → drop (number * size) text ≡ joined_bytes pieces → length text ≤ number * size + most
    → pieces_in most (record { text = text; number = number; size = size; is_open = going }) ≡
    pieces
unfolding pieces_in piece_of
only_in size _ _ fits (last_block number raw some within) zero text going rest enough =
    absurd (omega (arith, ap length rest, length-append raw [], length-drop (number * size) text))
only_in size _ _ fits (last_block number raw some within) (suc most) text going rest enough =
    let last : length text ≤ (number + 1) * size =
    omega (arith, ap length rest, length-append raw [], length-drop (number * size) text) in
    ends_here _ (number + 1) (block_after number size text) raw _ (le-leb _ _ last)
    (ap (take size) (rest ∙ append-nil raw) ∙ take_whole size raw within)
only_in size _ _ fits (full_block number raw pieces full later) zero text going rest enough =
    absurd (omega (
      arith,
      ap length rest,
      length-append raw (joined_bytes pieces),
      length-drop (number * size) text,
    ))
only_in size _ _ fits (full_block number raw pieces full later) (suc most) text going rest enough =
    let some = some_joined size (number + 1) pieces fits later in
    let further : (number + 1) * size < length text = omega (
      arith,
      ap length rest,
      length-append raw (joined_bytes pieces),
      length-drop (number * size) text,
    ) in
    let part : take size (raw ++ joined_bytes pieces) ≡ raw =
    ap (λ (n : ℕ). take n (raw ++ joined_bytes pieces)) (sym full)
    ∙ take-append_seam raw (joined_bytes pieces) in
    let after : drop size (raw ++ joined_bytes pieces) ≡ joined_bytes pieces =
    ap (λ (n : ℕ). drop n (raw ++ joined_bytes pieces)) (sym full)
    ∙ drop-append_seam raw (joined_bytes pieces) in
    let next : (number + 1) * size ≡ number * size + size = omega arith in
    let left : drop ((number + 1) * size) text ≡ joined_bytes pieces =
    ap (λ (n : ℕ). drop n text) next ∙ sym (drop-drop size (number * size) text)
    ∙ ap (drop size) rest ∙ after in
    goes_further _ (number + 1) (block_after number size text) raw _ pieces (lt-leb _ _ further)
    (ap (take size) rest ∙ part)
    (only_in size (number + 1) pieces fits later most text _ left (omega arith))

-- no other pieces are the blocks of a text
pub is_only : (size : ℕ) (pieces : List Piece) → 0 < size → AreBlocks size 0 pieces → pieces
    ≡ pieces_of (joined_bytes pieces) size
unfolding pieces_of
is_only size pieces fits blocks =
    let none : 0 * size ≡ 0 = omega arith in
    let all : drop (0 * size) (joined_bytes pieces) ≡ joined_bytes pieces =
    ap (λ (n : ℕ). drop n (joined_bytes pieces)) none in
    sym (only_in size 0 pieces fits blocks (length (joined_bytes pieces)) (joined_bytes pieces) true
    all (omega arith))
