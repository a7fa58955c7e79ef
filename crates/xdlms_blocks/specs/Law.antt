-- The laws of the blocks of a text.
use Rattle.std.specs.Prelude.{◌≡◌, ℕ, ◌<◌, ◌≤◌, List, length}
use Rattle.xdlms_blocks.specs.declared.blocks.Piece.{Piece}
use Rattle.xdlms_blocks.specs.Limits.{max_joined}
use Rattle.xdlms_blocks.specs.Blocks.{AreBlocks, joined_bytes, pieces_of, new_joining, Joins}

-- the pieces that a transfer returns are the blocks of the text
abbrev pub IsCut : Type 0
IsCut = (text : List ℕ) (size : ℕ) → 0 < length text → 0 < size
    → AreBlocks size 0 (pieces_of text size)

-- the concatenation of the pieces that a transfer returns is the text
abbrev pub IsWhole : Type 0
IsWhole = (text : List ℕ) (size : ℕ) → 0 < length text → 0 < size
    → joined_bytes (pieces_of text size) ≡ text

-- no other pieces are the blocks of the text
abbrev pub IsOnly : Type 0
IsOnly = (size : ℕ) (pieces : List Piece) → 0 < size → AreBlocks size 0 pieces
    → pieces ≡ pieces_of (joined_bytes pieces) size

-- blocks that arrive in order give the text that was cut
abbrev pub IsJoined : Type 0
IsJoined = (size : ℕ) (pieces : List Piece) → AreBlocks size 0 pieces
    → length (joined_bytes pieces) ≤ max_joined → Joins new_joining pieces (joined_bytes pieces)
