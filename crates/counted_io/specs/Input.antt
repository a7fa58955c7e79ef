-- Reading bytes to their end, up to a limit.
--     FailsToRead     what a fault says about the bytes that were read before it
--     StopsReading    reading stopped with a fault
use Rattle.std.specs.Prelude.{◌<◌, ◌≤◌, ℕ, Option, List, length, ⊤}
use Rattle.std.specs.Io.KnownBytes.{Consumes}
use Rattle.counted_io.specs.declared.fault.InputFault.{InputFault}
use Rattle.counted_io.specs.declared.fault.InputFault.TheVariants as fault

-- whether a fault fits the bytes that were read before it and the number of failed reads before and
-- after the call: `TooLong` if the bytes exceed the limit, `Read` if they do not and a read failed
abbrev pub FailsToRead : ℕ → List ℕ → ℕ → InputFault → ℕ → Type 0
FailsToRead limit bytes failed fault.TooLong failed' = limit < length bytes
FailsToRead limit bytes failed fault.Read failed' = (length bytes ≤ limit) × (failed < failed')
FailsToRead limit bytes failed fault.Memory failed' = ⊤

-- whether reading stopped with this fault, which fits the bytes and the failed reads before it
pub record StopsReading (limit : ℕ) (left : Option (List ℕ)) (failed : ℕ) (f : InputFault)
    (left' : Option (List ℕ)) (failed' : ℕ) : Type 0 where
  pub bytes : List ℕ
  pub read : Consumes left left' bytes
  pub cause : FailsToRead limit bytes failed f failed'
