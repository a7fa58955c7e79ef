-- Reading a line from a std stream through a buffer.
--     left_in           the bytes that the stream has left, if they are known
--     has_failed_in     whether a read of the stream has failed
--     AddsPiece         a piece of a line was appended
--     AddsPart          a part of a line was appended
--     ReadsLine         a line was appended
--     IsLineFault       why no line was appended
use Rattle.std.specs.Prelude.{◌≡◌, ◌≢◌, ℕ, ◌+◌, ◌<◌, Bool, true, false, List, ◌++◌, All, Option, IfSome, OnSome, length, ⊤}
use Rattle.std.specs.Io.{IsEmptyOrEndsWith, StopsAt}
use Rattle.std.specs.Io.BufRead.{take_through, DropsThrough}
use Rattle.std.specs.Io.Buffered.{reader_inner, reader_remaining}
use Rattle.std.specs.Io.KnownBytes.{Consumes, IsAtEnd}
use Rattle.std.specs.declared.io.buffered.BufReader.{BufReader}
use Rattle.counted_io.specs.Monitored.{has_failed, stream_of}
use Rattle.counted_io.specs.declared.monitored.Monitored.{Monitored}
use Rattle.counted_io.specs.declared.fault.InputFault.{InputFault}
use Rattle.counted_io.specs.declared.fault.InputFault.TheVariants as fault

-- the bytes that the stream has left, if they are known: those in the buffer, followed by the
-- unread ones
abbrev pub left_in : {T A : Type 0} → (T → Option (List ℕ)) → BufReader (Monitored T) A
    → Option (List ℕ)
left_in remaining input = reader_remaining (λ m. remaining (stream_of m)) input

-- whether a read of the stream has failed
abbrev pub has_failed_in : {T A : Type 0} → BufReader (Monitored T) A → Bool
has_failed_in input = has_failed (reader_inner input)

-- Whether a piece of a line was appended: bytes that were read, of which only the last can be 0A. A
-- piece that ends the line ends with that byte, or is empty at the end of the input. Any other
-- piece is not empty and has no 0A.
pub record AddsPiece (left : Option (List ℕ)) (line : List ℕ) (is_done : Bool)
    (left' : Option (List ℕ)) (line' : List ℕ) : Type 0 where
  pub piece : List ℕ
  pub added : line' ≡ line ++ piece
  pub read : Consumes left left' piece
  pub stops : StopsAt piece 10
  pub inside : is_done ≡ false → All (λ byte. byte ≢ 10) piece
  pub more : is_done ≡ false → 0 < length piece
  pub ends : is_done ≡ true → IsEmptyOrEndsWith piece 10
  pub at_end : is_done ≡ true → length piece ≡ 0 → OnSome left (IsAtEnd left')

-- whether a part of a line was appended: bytes that were read, of which only the last can be 0A
pub record AddsPart (left : Option (List ℕ)) (line : List ℕ) (left' : Option (List ℕ))
    (line' : List ℕ) : Type 0 where
  pub bytes : List ℕ
  pub added : line' ≡ line ++ bytes
  pub read : Consumes left left' bytes
  pub stops : StopsAt bytes 10

-- Whether a line was appended: the bytes up to and including the first 0A, or all bytes if there is
-- none. `count` is their number.
pub record ReadsLine (left : Option (List ℕ)) (line : List ℕ) (count : ℕ) (left' : Option (List ℕ))
    (line' : List ℕ) : Type 0 where
  pub bytes : List ℕ
  pub added : line' ≡ line ++ bytes
  pub read : Consumes left left' bytes
  pub counted : count ≡ length bytes
  pub stops : StopsAt bytes 10
  pub through : IfSome left (λ all. bytes ≡ take_through 10 all)
  pub rest : DropsThrough left left' 10

-- whether this is why no line was appended to `line`: with it, `line` would exceed the limit, or a
-- read has failed, or out of memory
abbrev pub IsLineFault : ℕ → Option (List ℕ) → List ℕ → Bool → InputFault → Type 0
IsLineFault limit left line failed fault.TooLong =
    IfSome left (λ all. limit < length line + length (take_through 10 all))
IsLineFault limit left line failed fault.Read = failed ≡ true
IsLineFault limit left line failed fault.Memory = ⊤
