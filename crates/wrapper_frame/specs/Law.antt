-- The laws of the frames of a stream.
use Rattle.std.specs.Prelude.{◌≡◌, List, ℕ, ◌∷◌, ◌++◌}
use Rattle.wrapper_frame.specs.declared.parts.Frame.{Frame}
use Rattle.wrapper_frame.specs.Header.{head_of}
use Rattle.wrapper_frame.specs.Text.{frame_text, IsFrame}
use Rattle.wrapper_frame.specs.Messages.{frames_of, rest_of, AreBytes, Messages, IsEnd}

-- bytes are the texts of their frames, followed by their rest
abbrev pub IsFound : Type 0
IsFound = (bytes : List ℕ) → AreBytes bytes → Messages bytes (frames_of bytes) (rest_of bytes)

-- bytes are the texts of no other frames
abbrev pub IsOnly : Type 0
IsOnly = (bytes : List ℕ) (frames : List Frame) (rest : List ℕ) → AreBytes bytes
    → Messages bytes frames rest → (frames ≡ frames_of bytes) × (rest ≡ rest_of bytes)

-- the rest is part of a frame, or begins with a header of another version or of too long a payload
abbrev pub HasEnd : Type 0
HasEnd = (bytes : List ℕ) → IsEnd (head_of (rest_of bytes))

-- the text of a frame is read back as that frame, whatever bytes follow
abbrev pub IsReadBack : Type 0
IsReadBack = (frame : Frame) (more : List ℕ) → IsFrame frame
    → (frames_of (frame_text frame ++ more) ≡ frame ∷ frames_of more)
    × (rest_of (frame_text frame ++ more) ≡ rest_of more)
