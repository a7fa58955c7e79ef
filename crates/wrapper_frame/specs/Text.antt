-- The bytes that spell a frame (IEC 62056-4-7).
use Rattle.std.specs.Prelude.{◌≡◌, ℕ, ◌<◌, ◌≤◌, ◌^◌, List, ◌++◌, length, drop}
use Rattle.byteorder.specs.Endian.{big_bytes}
use Rattle.wrapper_frame.specs.declared.parts.Frame.{Frame}
use Rattle.wrapper_frame.specs.Header.{wrapper_version, max_payload}

-- a header: version, source port, destination port and length of the payload
abbrev pub header_text : ℕ → ℕ → ℕ → List ℕ
header_text src dst size =
    big_bytes 2 wrapper_version ++ big_bytes 2 src ++ big_bytes 2 dst ++ big_bytes 2 size

-- the bytes of a frame: its header, followed by its payload
unfoldable pub frame_text : Frame → List ℕ
frame_text frame = header_text frame.src frame.dst (length frame.payload) ++ frame.payload

-- whether a frame can be written: its ports fit in two bytes, and its payload is not too long
pub record IsFrame (frame : Frame) : Type 0 where
  pub src : frame.src < 2 ^ 16
  pub dst : frame.dst < 2 ^ 16
  pub payload : length frame.payload ≤ max_payload

-- whether a text of `count` bytes is at the front of a buffer, whose other bytes are as before
pub record IsPlaced (text : List ℕ) (count : ℕ) (before after : List ℕ) : Type 0 where
  pub counted : count ≡ length text
  pub written : after ≡ text ++ drop count before
