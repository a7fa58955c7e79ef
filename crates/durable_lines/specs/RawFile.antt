-- What a call of the operating system does to a file that acts as the crash model says.
--     LeftNow      what a crash leaves of a file in a state
--     HasFront     an append of a front of bytes
--     ReadsPiece   a read of the bytes from a place on
--     CutsOrStays  a cut that was made, or not
use Rattle.std.specs.Prelude.{◌≡◌, ◌⊎◌, ◌+◌, ◌<◌, ◌≤◌, ℕ, List, [], ◌++◌, length, take, drop}
use Rattle.durable_lines.specs.FileState.{State, IsLeft, after_append, after_cut}

-- whether a crash leaves these bytes of a file in this state: only if files of its type act as the
-- crash model says
abbrev pub LeftNow : (acts : Type 0) → State → List ℕ → Type 0
LeftNow acts s c = acts × IsLeft s c

-- whether a front of these bytes was appended: all, some or none
abbrev pub HasFront : (bytes : List ℕ) (old new : State) → Type 0
HasFront bytes old new =
    (front rest : List ℕ) × (bytes ≡ front ++ rest) × (new ≡ after_append front old)

-- Whether a read from one place to another returned this piece of the bytes. If it returned none,
-- and there was room, the bytes are at their end.
pub record ReadsPiece (bytes : List ℕ) (from to room : ℕ) (piece : List ℕ) : Type 0 where
  pub read : piece ≡ take (length piece) (drop from bytes)
  pub moved : to ≡ from + length piece
  pub ended : piece ≡ [] → 0 < room → length bytes ≤ from

-- whether a file was cut to a length, or is as it was
abbrev pub CutsOrStays : (len : ℕ) (old new : State) → Type 0
CutsOrStays len old new = (new ≡ old) ⊎ (new ≡ after_cut len old)
