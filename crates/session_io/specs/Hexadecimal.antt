-- A session whose bytes are written in hexadecimal.
--     bytes_of      the bytes that a text's digits encode
--     hex_line      the line of a frame
--     hex_output    the lines of a whole session of a new meter
--     PlaysOn       the effect of a session's bytes on a meter, by the result
--     PlaysNew      that effect on a new meter
--     ReadsHex      a text was read to its end and decoded
--     StopsReading  a text was not decoded, by the fault
--     RunsHex       the effect of reading and playing a text, by the result
use Rattle.std.specs.Prelude.{◌≡◌, ◌⊎◌, ◌<◌, ◌≤◌, ℕ, Bool, ◌+◌, ◌==◌, ◌||◌, not, Option, Some, None, List, [], ◌∷◌, ◌++◌, length, map, filter, position, ⊤, Result, Ok, Err}
use Rattle.std.specs.List.{flat_map}
use Rattle.std.specs.Io.KnownBytes.{Appends, Consumes, IsAtEnd}
use Rattle.hex.specs.Hex.{decode_of, encode_upper, is_hex_digit}
use Rattle.hex.specs.declared.error.FromHexError.{FromHexError}
use Rattle.session_io.specs.Meters.{CoreSteps}
use Rattle.session_io.specs.Serving.{DoesAll, StopsShort, plan_of, work_for}
use Rattle.session_io.specs.Sides.{Input, Output, Outlets, Streams, WritesNothing}
use Rattle.session_io.specs.declared.fault.HexFault.{HexFault}
use Rattle.session_io.specs.declared.fault.HexFault.TheVariants as fault
use Rattle.session_io.specs.declared.fault.TextFault.{TextFault}
use Rattle.session_io.specs.declared.fault.TextFault.TheVariants as text_fault
use Rattle.relay_events.specs.declared.event.Event.{Event}
use Rattle.relay_events.specs.declared.reply.Reply.{Reply}
use Rattle.relay_core.specs.declared.relay.RelayCore.{RelayCore}
use Rattle.relay_core.specs.Runs.{lines_of}
use Rattle.relay_core.specs.Stands.{StandsFor}
use Rattle.relay_core.specs.World.{World, new_world}
use Rattle.session_core.specs.Backwards.{Asks, Answers}

-- the maximum number of characters of a text
abbrev pub max_characters : ℕ
max_characters = 1048576

-- whether a character is skipped: a space, a line feed or a carriage return
unfoldable pub is_blank : ℕ → Bool
is_blank character = character == 0x20 || character == 0x0A || character == 0x0D

-- the bytes of a text, whose digits are taken in pairs, or the decoding error
abbrev pub bytes_of : List ℕ → Result (List ℕ) FromHexError
bytes_of text = decode_of (filter (λ character. not (is_blank character)) text)

-- whether the text's digits encode these bytes
abbrev pub IsHex : List ℕ → List ℕ → Type 0
IsHex text input = bytes_of text ≡ Ok input

-- the line of a frame, in upper-case hexadecimal
abbrev pub hex_line : List ℕ → List ℕ
hex_line frame = encode_upper frame ++ 0x0A ∷ []

-- the replies to events, one after the other
abbrev pub replies_of : List Event → World → List Reply
replies_of events w = map (λ line. line.reply) (lines_of events w)

-- the output for an input: a line for each frame that is sent, given the replies of a new meter
-- with this device name
abbrev pub hex_output : List ℕ → List ℕ → List ℕ → List ℕ
hex_output device password input =
    flat_map hex_line (Answers password input (replies_of (Asks password input) (new_world device)))

-- whether a character is a digit, or is skipped
abbrev pub is_taken : ℕ → Bool
is_taken character = is_hex_digit character || is_blank character

-- the fault of a text, by the index of its first character that is neither a digit nor skipped;
-- without such a character it has an odd number of digits
abbrev pub fault_at : Option ℕ → TextFault
fault_at (Some index) = text_fault.Digit (index + 1)
fault_at None = text_fault.OddDigits

-- the fault of a text that is not pairs of hexadecimal digits: its first character that is neither
-- a digit nor skipped, counted from 1, else its odd number of digits
abbrev pub digit_fault : List ℕ → TextFault
digit_fault text = fault_at (position (λ character. not (is_taken character)) text)

-- whether a text is not pairs of hexadecimal digits, and has this fault
abbrev pub IsNoHex : List ℕ → TextFault → Type 0
IsNoHex text given = (given ≡ digit_fault text) × ((input : List ℕ) → ¬ (IsHex text input))

-- whether a text is not pairs of hexadecimal digits, or out of memory
abbrev pub IsUndecoded : List ℕ → TextFault → Type 0
IsUndecoded text (text_fault.Digit character) = IsNoHex text (text_fault.Digit character)
IsUndecoded text text_fault.OddDigits = IsNoHex text text_fault.OddDigits
IsUndecoded text text_fault.TooLong = ⊥
IsUndecoded text text_fault.Read = ⊥
IsUndecoded text text_fault.Memory = ⊤

-- whether a text was read to its end, and its digits encode these bytes
pub record ReadsHex (left left' : Option (List ℕ)) (input : List ℕ) : Type 0 where
  pub text : List ℕ
  pub read : Consumes left left' text
  pub at_end : IsAtEnd left'
  pub within : length text ≤ max_characters
  pub is_hex : IsHex text input

-- whether a whole text is not pairs of hexadecimal digits
abbrev pub IsWrongWhole : List ℕ → TextFault → Option (List ℕ) → Type 0
IsWrongWhole text given left' = IsNoHex text given × (length text ≤ max_characters) × IsAtEnd left'

-- whether this is why a text was not decoded, after these characters: they are all and not pairs of
-- hexadecimal digits, they are too many, a read failed, or memory ran out
abbrev pub FailsToRead : List ℕ → Input → TextFault → Input → Type 0
FailsToRead text before (text_fault.Digit character) after =
    IsWrongWhole text (text_fault.Digit character) after.left
FailsToRead text before text_fault.OddDigits after =
    IsWrongWhole text text_fault.OddDigits after.left
FailsToRead text before text_fault.TooLong after = max_characters < length text
FailsToRead text before text_fault.Read after = (length text ≤ max_characters)
    × (before.failures < after.failures)
FailsToRead text before text_fault.Memory after = ⊤

-- whether a text was not decoded
pub record StopsReading (before : Input) (f : TextFault) (after : Input) : Type 0 where
  pub text : List ℕ
  pub read : Consumes before.left after.left text
  pub cause : FailsToRead text before f after

-- the fault of a session whose text was not decoded
abbrev pub hex_fault_of : TextFault → HexFault
hex_fault_of (text_fault.Digit character) = fault.Digits
hex_fault_of text_fault.OddDigits = fault.Digits
hex_fault_of text_fault.TooLong = fault.TooLong
hex_fault_of text_fault.Read = fault.Read
hex_fault_of text_fault.Memory = fault.Memory

-- Whether the session of an input ran out of memory: a new meter was asked the first of the events,
-- and the first of the lines were written.
pub record RunsShort (device password input : List ℕ) (before after : Output) : Type 0 where
  pub core : RelayCore
  pub core' : RelayCore
  pub is_new : StandsFor core (new_world device)
  pub stops : StopsShort CoreSteps hex_line (work_for (plan_of password) input)
      (record { output = before; meter = core }) (record { output = after; meter = core' })

-- Whether serving the bytes of a session by a meter has this result. On success all events were
-- asked and all answers were written.
abbrev pub PlaysOn : List ℕ → List ℕ → Outlets RelayCore → Result (Unit {0}) HexFault
    → Outlets RelayCore → Type 0
PlaysOn password input before (Ok done) after =
    DoesAll CoreSteps hex_line (work_for (plan_of password) input) before after
PlaysOn password input before (Err fault.Digits) after = ⊥
PlaysOn password input before (Err fault.TooLong) after = ⊥
PlaysOn password input before (Err fault.Read) after = ⊥
PlaysOn password input before (Err fault.Write) after =
    before.output.failures < after.output.failures
PlaysOn password input before (Err fault.Memory) after =
    WritesNothing before.output after.output
    ⊎ StopsShort CoreSteps hex_line (work_for (plan_of password) input) before after

-- whether the lines of a whole session of a new meter were written
abbrev pub WritesLines : List ℕ → List ℕ → List ℕ → Output → Output → Type 0
WritesLines device password input before after =
    Appends before.written after.written (hex_output device password input)

-- Whether serving the bytes of a session by a new meter has this result. On success the lines of
-- the whole session were written.
abbrev pub PlaysNew : List ℕ → List ℕ → List ℕ → Output → Result (Unit {0}) HexFault → Output
    → Type 0
PlaysNew device password input before (Ok done) after =
    WritesLines device password input before after
PlaysNew device password input before (Err fault.Digits) after = ⊥
PlaysNew device password input before (Err fault.TooLong) after = ⊥
PlaysNew device password input before (Err fault.Read) after = ⊥
PlaysNew device password input before (Err fault.Write) after = before.failures < after.failures
PlaysNew device password input before (Err fault.Memory) after =
    WritesNothing before after ⊎ RunsShort device password input before after

-- whether the characters that were read are a whole text of a fit length
abbrev pub IsWholeText : List ℕ → Input → Type 0
IsWholeText text after = (length text ≤ max_characters) × IsAtEnd after.left

-- whether playing a text, of which these characters were read, has this result; only a text that
-- was read to its end and decoded can write lines
abbrev pub HexEffect : List ℕ → List ℕ → List ℕ → Streams → Result (Unit {0}) HexFault → Streams
    → Type 0
HexEffect device password text before (Ok done) after =
    (input : List ℕ) × IsHex text input × IsWholeText text after.input
    × WritesLines device password input before.output after.output
HexEffect device password text before (Err fault.Digits) after =
    ((input : List ℕ) → ¬ (IsHex text input)) × IsWholeText text after.input
    × WritesNothing before.output after.output
HexEffect device password text before (Err fault.TooLong) after =
    (max_characters < length text) × WritesNothing before.output after.output
HexEffect device password text before (Err fault.Read) after =
    (length text ≤ max_characters) × (before.input.failures < after.input.failures)
    × WritesNothing before.output after.output
HexEffect device password text before (Err fault.Write) after =
    (input : List ℕ) × IsHex text input × IsWholeText text after.input
    × (before.output.failures < after.output.failures)
HexEffect device password text before (Err fault.Memory) after =
    WritesNothing before.output after.output
    ⊎ ((input : List ℕ) × IsHex text input × IsWholeText text after.input
    × RunsShort device password input before.output after.output)

-- whether playing a text has this result: some characters were read, with this effect
pub record RunsHex (device password : List ℕ) (before : Streams)
    (result : Result (Unit {0}) HexFault) (after : Streams) : Type 0 where
  pub text : List ℕ
  pub read : Consumes before.input.left after.input.left text
  pub effect : HexEffect device password text before result after
