-- Standard input that could not be read to its end.
use Rattle.std.specs.Prelude.{◌<◌, ◌≤◌, ℕ, Option, List, length, ⊤}
use Rattle.std.specs.Io.KnownBytes.{Consumes}
use Rattle.server_commands.specs.declared.messages.CommandFault.{CommandFault}
use Rattle.server_commands.specs.declared.messages.CommandFault.TheVariants as fault

-- Whether reading may have failed with this fault after these bytes: more than 1,048,576 bytes, a
-- failed read, or out of memory. The two numbers count the failed reads before and after.
abbrev pub FailsToRead : List ℕ → ℕ → CommandFault → ℕ → Type 0
FailsToRead bytes failed fault.TooLong failed' = 1048576 < length bytes
FailsToRead bytes failed fault.Read failed' = (length bytes ≤ 1048576) × (failed < failed')
FailsToRead bytes failed fault.Memory failed' = ⊤
FailsToRead bytes failed other failed' = ⊥

-- whether an input was not read to its end
pub record StopsReading (left : Option (List ℕ)) (failed : ℕ) (f : CommandFault)
    (left' : Option (List ℕ)) (failed' : ℕ) : Type 0 where
  pub bytes : List ℕ
  pub read : Consumes left left' bytes
  pub cause : FailsToRead bytes failed f failed'
