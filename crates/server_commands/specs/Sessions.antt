-- The output of `meter_server hex` for its input.
--     digit_fault    the fault of a text that is not pairs of hexadecimal digits
--     PlaysInput     the effect of serving the bytes of a session, by the result
--     PlaysBytes     the effect of serving a text that was read, by the result
--     PlaysText      the effect of judging the options and serving a text, by the result
use Rattle.std.specs.Prelude.{◌≡◌, ◌⊎◌, ◌≤◌, ◌<◌, ◌+◌, ℕ, not, position, Option, Some, None, List, length, Result, Ok, Err}
use Rattle.std.specs.Io.KnownBytes.{Consumes, IsAtEnd}
use Rattle.acse_ber.specs.Password.{IsPassword}
use Rattle.relay_core.specs.World.{IsDeviceName}
use Rattle.session_io.specs.Hexadecimal.{IsHex, RunsShort, WritesLines, is_taken}
use Rattle.session_io.specs.Sides.{Output, WritesNothing, output_of}
use Rattle.server_commands.specs.Apdu.{max_bytes}
use Rattle.server_commands.specs.declared.messages.CommandFault.{CommandFault}
use Rattle.server_commands.specs.declared.messages.CommandFault.TheVariants as fault

-- the fault of a text, by the index of its first character that is neither a digit nor skipped;
-- without such a character it has an odd number of digits
abbrev pub fault_at : Option ℕ → CommandFault
fault_at (Some index) = fault.Digit (index + 1)
fault_at None = fault.OddDigits

-- the fault of a text that is not pairs of hexadecimal digits: its first character that is neither
-- a digit nor skipped, counted from 1, else its odd number of digits
abbrev pub digit_fault : List ℕ → CommandFault
digit_fault text = fault_at (position (λ character. not (is_taken character)) text)

-- whether a text is not pairs of digits and has this fault, and nothing was written
abbrev pub IsNoHex : List ℕ → CommandFault → Output → Output → Type 0
IsNoHex text given before after = (given ≡ digit_fault text)
    × ((input : List ℕ) → ¬ (IsHex text input)) × WritesNothing before after

-- whether serving the bytes of a session has this result: all output was written, a write failed,
-- or memory ran out before the end
abbrev pub PlaysInput : List ℕ → List ℕ → List ℕ → Output → Result (Unit {0}) CommandFault → Output
    → Type 0
PlaysInput device password input before (Ok done) after =
    WritesLines device password input before after
PlaysInput device password input before (Err fault.Write) after = before.failures < after.failures
PlaysInput device password input before (Err fault.Memory) after =
    WritesNothing before after ⊎ RunsShort device password input before after
PlaysInput device password input before (Err other) after = ⊥

-- whether decoding a text and serving its bytes has this result; a text that is not pairs of
-- hexadecimal digits writes nothing
abbrev pub PlaysBytes : List ℕ → List ℕ → List ℕ → Output → Result (Unit {0}) CommandFault → Output
    → Type 0
PlaysBytes device password text before (Ok done) after =
    (input : List ℕ) × IsHex text input × WritesLines device password input before after
PlaysBytes device password text before (Err (fault.Digit character)) after =
    IsNoHex text (fault.Digit character) before after
PlaysBytes device password text before (Err fault.OddDigits) after =
    IsNoHex text fault.OddDigits before after
PlaysBytes device password text before (Err fault.Write) after =
    (input : List ℕ) × IsHex text input × (before.failures < after.failures)
PlaysBytes device password text before (Err fault.Memory) after =
    WritesNothing before after
    ⊎ ((input : List ℕ) × IsHex text input × RunsShort device password input before after)
PlaysBytes device password text before (Err fault.TooLong) after = ⊥
PlaysBytes device password text before (Err (fault.Line number why)) after = ⊥
PlaysBytes device password text before (Err fault.Password) after = ⊥
PlaysBytes device password text before (Err fault.Device) after = ⊥
PlaysBytes device password text before (Err fault.Read) after = ⊥

module _ {R W : Type 0}
    (remaining : R → Option (List ℕ)) (read_failures : R → ℕ)
    (contents : W → Option (List ℕ)) (write_failures : W → ℕ) where
  -- whether the options are fit, and a whole text of a fit length was read
  pub record ReadsWhole (password device : List ℕ) (r r' : R) (text : List ℕ) : Type 0 where
    pub password_fits : IsPassword password
    pub device_fits : IsDeviceName device
    pub read : Consumes (remaining r) (remaining r') text
    pub at_end : IsAtEnd (remaining r')
    pub within : length text ≤ max_bytes

  -- whether a whole text was played
  pub record PlaysWhole (password device : List ℕ) (r : R) (w : W)
      (result : Result (Unit {0}) CommandFault) (r' : R) (w' : W) : Type 0 where
    pub text : List ℕ
    pub reads : ReadsWhole password device r r' text
    pub plays : PlaysBytes device password text (output_of contents write_failures w) result
        (output_of contents write_failures w')

  -- whether the options are fit, and a text was not read to its end
  pub record StopsReading (password device : List ℕ) (r : R) (w : W) (r' : R) (w' : W)
      (Cause : List ℕ → Type 0) : Type 0 where
    pub password_fits : IsPassword password
    pub device_fits : IsDeviceName device
    pub text : List ℕ
    pub read : Consumes (remaining r) (remaining r') text
    pub cause : Cause text
    pub unwritten : w' ≡ w

  -- Whether judging the options, reading the text and serving it has this result. The password is
  -- judged first, then the device name; if either is refused, nothing is read.
  abbrev pub PlaysText : List ℕ → List ℕ → R → W → Result (Unit {0}) CommandFault → R → W → Type 0
  PlaysText password device r w (Err fault.Password) r' w' =
      ((length password ≡ 0) ⊎ (32 < length password)) × (r' ≡ r) × (w' ≡ w)
  PlaysText password device r w (Err fault.Device) r' w' = IsPassword password
      × ((length device ≡ 0) ⊎ (16 < length device)) × (r' ≡ r) × (w' ≡ w)
  PlaysText password device r w (Err fault.TooLong) r' w' =
      StopsReading password device r w r' w' (λ text. max_bytes < length text)
  PlaysText password device r w (Err fault.Read) r' w' =
      StopsReading password device r w r' w' (λ text. (length text ≤ max_bytes)
      × (read_failures r < read_failures r'))
  PlaysText password device r w (Err fault.Memory) r' w' = (w' ≡ w)
      ⊎ PlaysWhole password device r w (Err fault.Memory) r' w'
  PlaysText password device r w (Ok done) r' w' = PlaysWhole password device r w (Ok done) r' w'
  PlaysText password device r w (Err (fault.Digit character)) r' w' =
      PlaysWhole password device r w (Err (fault.Digit character)) r' w'
  PlaysText password device r w (Err fault.OddDigits) r' w' =
      PlaysWhole password device r w (Err fault.OddDigits) r' w'
  PlaysText password device r w (Err fault.Write) r' w' =
      PlaysWhole password device r w (Err fault.Write) r' w'
  PlaysText password device r w (Err (fault.Line number why)) r' w' = ⊥
