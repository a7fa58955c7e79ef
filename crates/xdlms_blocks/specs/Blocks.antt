-- The blocks of a text (IEC 62056-5-3, block transfer).
--     AreBlocks     pieces are the blocks of one text, in order: numbered from one on, each of the
--                   full size but the last, and only the last is marked as the last
--     joined_bytes  the concatenation of their parts
--     pieces_of     the pieces that a transfer returns if each is requested by the number of the
--                   one before
--     Joins         adding pieces in order returns no text before the last, and this text at the
--                   last
use Rattle.std.specs.Prelude.{◌≡◌, ℕ, zero, suc, ◌+◌, ◌<◌, ◌≤◌, true, false, List, [], ◌∷◌, length, Some, None, if◌then◌else◌}
use Rattle.std.specs.List.{flat_map}
use Rattle.xdlms_blocks.specs.declared.blocks.Piece.{Piece}
use Rattle.xdlms_blocks.specs.Limits.{max_joined}
use Rattle.xdlms_blocks.specs.Transfer.{Sending, Joining}
use Rattle.xdlms_blocks.specs.Sending.{is_last, next_piece, after_next}
use Rattle.xdlms_blocks.specs.Joining.{added_text, joining_after_block}

-- pieces are the blocks of `size` bytes that follow the first `number` blocks
pub data AreBlocks (size : ℕ) : ℕ → List Piece → Type 0 where
  last_block : (number : ℕ) (raw : List ℕ) → 0 < length raw → length raw ≤ size
      → AreBlocks size number (record { last = true; number = number + 1; raw = raw } ∷ [])
  full_block : (number : ℕ) (raw : List ℕ) (pieces : List Piece) → length raw ≡ size
      → AreBlocks size (number + 1) pieces
      → AreBlocks size number (record { last = false; number = number + 1; raw = raw } ∷ pieces)

-- the concatenation of the parts of a text
abbrev pub joined_bytes : List Piece → List ℕ
joined_bytes pieces = flat_map (λ piece. piece.raw) pieces

-- a text of which no block is sent
abbrev pub new_sending : List ℕ → ℕ → Sending
new_sending text size = record { text = text; number = 0; size = size; is_open = true }

-- the next pieces, up to the last, and at most a given number of them
unfoldable pub pieces_in : ℕ → Sending → List Piece
pieces_in zero s = []
pieces_in (suc most) s = next_piece s ∷ (if is_last s then [] else pieces_in most (after_next s))

-- all pieces of a text; each has at least one byte
unfoldable pub pieces_of : List ℕ → ℕ → List Piece
pieces_of text size = pieces_in (length text) (new_sending text size)

-- a transfer of which no block has arrived
abbrev pub new_joining : Joining
new_joining = record { number = 0; bytes = []; is_open = true }

-- whether a piece is accepted: no fault refuses it
pub record IsDue (j : Joining) (piece : Piece) : Type 0 where
  pub going : j.is_open ≡ true
  pub next : piece.number ≡ j.number + 1
  pub short : length j.bytes + length piece.raw ≤ max_joined

-- adding pieces in order, from this state on, returns no text before the last and this text at the
-- last
pub data Joins : Joining → List Piece → List ℕ → Type 0 where
  at_last : (j : Joining) (piece : Piece) (text : List ℕ) → IsDue j piece
      → added_text piece.last piece.raw j ≡ Some text → Joins j (piece ∷ []) text
  goes_on : (j : Joining) (piece : Piece) (pieces : List Piece) (text : List ℕ) → IsDue j piece
      → added_text piece.last piece.raw j ≡ None
      → Joins (joining_after_block piece.last piece.raw j) pieces text
      → Joins j (piece ∷ pieces) text
