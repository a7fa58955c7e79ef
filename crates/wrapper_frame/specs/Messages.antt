-- The frames of a stream (IEC 62056-4-7).
--     frames_of, rest_of     the consecutive frames that bytes begin with, and the bytes after them
--     Messages               bytes are the texts of frames, followed by a rest that begins with no
--                            frame
use Rattle.std.specs.Prelude.{◌≡◌, ◌≢◌, ℕ, zero, suc, ◌+◌, ◌<◌, List, [], ◌∷◌, ◌++◌, length, take, drop, slice_index}
use Rattle.std.specs.List.{flat_map}
use Rattle.wrapper_frame.specs.declared.parts.Frame.{Frame}
use Rattle.wrapper_frame.specs.declared.header.Head.{Head}
use Rattle.wrapper_frame.specs.declared.header.Head.TheVariants.{Part, BadVersion, TooLong, Whole}
use Rattle.wrapper_frame.specs.Header.{header_size, src_of, dst_of, head_of}
use Rattle.wrapper_frame.specs.Text.{frame_text, IsFrame}

-- bytes split into the frames at their front and the rest
pub record Cut : Type 0 where
  pub frames : List Frame
  pub rest : List ℕ

-- the frame at the front, with a payload of n bytes
abbrev pub first_frame : ℕ → List ℕ → Frame
first_frame n bytes =
    record { src = src_of bytes; dst = dst_of bytes; payload = take n (drop header_size bytes) }

-- the bytes after the frame at the front
abbrev pub after_first : ℕ → List ℕ → List ℕ
after_first n bytes = drop (header_size + n) bytes

-- one more frame before the others
abbrev pub cut_after : Frame → Cut → Cut
cut_after frame cut = record { frames = frame ∷ cut.frames; rest = cut.rest }

-- bytes split by what they begin with; a frame is split off, and the bytes after it are split in
-- turn
abbrev pub cut_by_head : Head → List ℕ → (List ℕ → Cut) → Cut
cut_by_head (Whole n) bytes cut_next = cut_after (first_frame n bytes)
    (cut_next (after_first n bytes))
cut_by_head Part bytes cut_next = record { frames = []; rest = bytes }
cut_by_head BadVersion bytes cut_next = record { frames = []; rest = bytes }
cut_by_head TooLong bytes cut_next = record { frames = []; rest = bytes }

-- bytes split into at most this many frames
unfoldable pub cut_in : ℕ → List ℕ → Cut
cut_in zero bytes = record { frames = []; rest = bytes }
cut_in (suc most) bytes = cut_by_head (head_of bytes) bytes (cut_in most)

-- the frames that bytes begin with; each has at least one byte
unfoldable pub frames_of : List ℕ → List Frame
frames_of bytes = (cut_in (length bytes) bytes).frames

-- the bytes after the frames
unfoldable pub rest_of : List ℕ → List ℕ
rest_of bytes = (cut_in (length bytes) bytes).rest

-- whether all numbers are bytes
abbrev pub AreBytes : List ℕ → Type 0
AreBytes bytes = (i : ℕ) → slice_index bytes i < 256

-- whether all frames can be written
abbrev pub AreFrames : List Frame → Type 0
AreFrames [] = Unit {0}
AreFrames (frame ∷ frames) = IsFrame frame × AreFrames frames

-- whether the bytes do not begin with the text of any frame
abbrev pub BeginsWithNone : List ℕ → Type 0
BeginsWithNone bytes = (frame : Frame) (more : List ℕ) → IsFrame frame
    → bytes ≢ frame_text frame ++ more

-- whether bytes are the texts of these frames, followed by a rest that begins with none
pub record Messages (bytes : List ℕ) (frames : List Frame) (rest : List ℕ) : Type 0 where
  pub spelled : bytes ≡ flat_map frame_text frames ++ rest
  pub fit : AreFrames frames
  pub ended : BeginsWithNone rest

-- whether this is one of the three ends of a stream's frames: part of a frame, a wrong version, too
-- large a length
abbrev pub IsEnd : Head → Type 0
IsEnd Part = Unit {0}
IsEnd BadVersion = Unit {0}
IsEnd TooLong = Unit {0}
IsEnd (Whole n) = ⊥
