-- The effect of a Deframer's calls on its bytes, and what it means for every stream that these
-- bytes begin.
use Rattle.std.specs.Prelude.{◌≡◌, ℕ, ◌+◌, ◌<◌, ◌≤◌, List, [], ◌++◌, length, Option, Some, None, option_to_list}
use Rattle.wrapper_frame.specs.declared.parts.Frame.{Frame}
use Rattle.wrapper_frame.specs.declared.fault.WrapperFault.{WrapperFault}
use Rattle.wrapper_frame.specs.declared.fault.WrapperFault.TheVariants as fault
use Rattle.wrapper_frame.specs.declared.header.Head.{Head}
use Rattle.wrapper_frame.specs.declared.header.Head.TheVariants.{Part, BadVersion, TooLong, Whole}
use Rattle.wrapper_frame.specs.Header.{header_size, max_payload, head_of}
use Rattle.wrapper_frame.specs.Messages.{first_frame, after_first, frames_of, rest_of}

-- whether this is the frame at the front of the old bytes, and the new bytes are those after it
pub record IsFirst (old : List ℕ) (frame : Frame) (new : List ℕ) : Type 0 where
  pub front : head_of old ≡ Whole (length frame.payload)
  pub frame_is : frame ≡ first_frame (length frame.payload) old
  pub after : new ≡ after_first (length frame.payload) old

-- whether bytes are part of a frame: they have no whole frame and no fault, and are shorter than
-- the longest frame
pub record IsPart (bytes : List ℕ) : Type 0 where
  pub front : head_of bytes ≡ Part
  pub few : length bytes < header_size + max_payload
  pub frames : frames_of bytes ≡ []
  pub rest : rest_of bytes ≡ bytes

-- whether the first frame was taken from the front; if there is none, nothing changes
abbrev pub TakesFirst : List ℕ → Option Frame → List ℕ → Type 0
TakesFirst old (Some frame) new = IsFirst old frame new
TakesFirst old None new = IsPart old × (new ≡ old)

-- whether all frames, whatever bytes follow, are the one that was taken, followed by those of the
-- bytes that are left
pub record KeepsFrames (old : List ℕ) (taken : Option Frame) (new : List ℕ) : Type 0 where
  pub frames : (more : List ℕ)
      → frames_of (old ++ more) ≡ option_to_list taken ++ frames_of (new ++ more)
  pub rest : (more : List ℕ) → rest_of (old ++ more) ≡ rest_of (new ++ more)

-- whether there is no frame, whatever bytes follow, and the front remains as it is
pub record Stops (front : Head) (bytes : List ℕ) : Type 0 where
  pub frames : (more : List ℕ) → frames_of (bytes ++ more) ≡ []
  pub rest : (more : List ℕ) → rest_of (bytes ++ more) ≡ bytes ++ more
  pub heads : (more : List ℕ) → head_of (bytes ++ more) ≡ front

-- whether this fault of the bytes remains, whatever bytes follow; nothing is claimed of a fault
-- that is out of memory
abbrev pub StopsBy : WrapperFault → List ℕ → Type 0
StopsBy fault.Version bytes = Stops BadVersion bytes
StopsBy fault.TooLong bytes = Stops TooLong bytes
StopsBy fault.Memory bytes = Unit {0}

-- whether the front means this for every stream that the bytes begin: an incomplete frame is no
-- frame yet, a wrong header remains, and a whole frame is complete
abbrev pub Fronts : List ℕ → Head → Type 0
Fronts bytes Part = IsPart bytes
Fronts bytes BadVersion = Stops BadVersion bytes
Fronts bytes TooLong = Stops TooLong bytes
Fronts bytes (Whole n) = header_size + n ≤ length bytes
