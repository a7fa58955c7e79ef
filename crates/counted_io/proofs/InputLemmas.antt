-- Input that was not read to its end.
use Rattle.std.proofs.Common.{◌≡◌, ℕ, Option, List, ◌++◌, Result, Ok, Err, IfErr, IsErrAnd, sym, subst}
use Rattle.std.specs.Io.KnownBytes.{Consumes}
use Rattle.std.proofs.KnownBytes.{Consumes-trans}
use Rattle.counted_io.specs.Input.{StopsReading}
use Rattle.counted_io.specs.declared.fault.InputFault.{InputFault}
use Rattle.counted_io.specs.declared.fault.InputFault.TheVariants as fault

-- out of memory after a piece was read
pub unread_memory : {X : Type 0} (limit : ℕ) (left left1 left' : Option (List ℕ))
    (failed failed' : ℕ) (bytes piece : List ℕ) (result : Result X InputFault)
    → Consumes left left1 bytes → Consumes left1 left' piece
    → IsErrAnd result (λ f. f ≡ fault.Memory)
    → IfErr result (λ f. StopsReading limit left failed f left' failed')
unread_memory limit left left1 left' failed failed' bytes piece (Ok x) before now is = tt
unread_memory limit left left1 left' failed failed' bytes piece (Err f) before now is =
    subst (λ (g : InputFault). StopsReading limit left failed g left' failed') (sym is)
    (record {
      bytes = bytes ++ piece;
      read = Consumes-trans left left1 left' bytes piece before now;
      cause = tt;
    })
