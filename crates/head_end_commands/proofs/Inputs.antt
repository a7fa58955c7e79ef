-- What follows for the whole input from a text that was read, or from a fault.
use Rattle.std.proofs.Common.{◌≡◌, ◌<◌, ◌∙◌, ℕ, true, List, [], length, Option, Some, None, Err}
use Rattle.std.proofs.Common.{IsErr, inl, inr, refl, sym, ap, arith}
use Rattle.std.specs.Io.KnownBytes.{Consumes, IsAtEnd}
use Rattle.std.proofs.KnownBytes.{Consumes-all}
use Rattle.std.proofs.lemmas.List.{length-append}
use Rattle.counted_io.specs.Input.{StopsReading}
use Rattle.counted_io.specs.declared.fault.InputFault.{InputFault}
use Rattle.counted_io.specs.declared.fault.InputFault.TheVariants as input
use Rattle.head_end.specs.Jobs.{ReadsJobs, jobs_of}
use Rattle.head_end.specs.declared.fault.JobsFault.{JobsFault}
use Rattle.head_end.specs.declared.fault.JobsFault.TheVariants as jobs
use Rattle.program.specs.Passwords.{is_of_files}
use Rattle.program.specs.declared.fault.Fault.TheVariants as program
use Rattle.head_end_commands.specs.Faults.{input_fault, jobs_fault}
use Rattle.head_end_commands.specs.Lists.{HasNoList, IsTextOf}

-- a text that was read from an input that then has no byte left is the whole input
pub whole_text : (before after : Option (List ℕ)) (text : List ℕ) → Consumes before after text
    → IsAtEnd after → IsTextOf before text
whole_text before after text read ended = Consumes-all before after text [] text read ended refl

-- an input of which more bytes were read than the limit has more
longer : (before after : Option (List ℕ)) (bytes : List ℕ) → Consumes before after bytes
    → 1_048_576 < length bytes → HasNoList before
longer None after bytes read long = tt
longer (Some whole) None bytes read long = absurd read
longer (Some whole) (Some rest) bytes read long =
    inl (rw read (let both = length-append bytes rest in omega (arith, long, both)))

-- the fault of an input that was not read is `Input` only if the input is too long
pub too_long : (before after : Option (List ℕ)) (failed failed' : ℕ) (fault : InputFault)
    → StopsReading 1_048_576 before failed fault after failed'
    → input_fault fault ≡ program.Input → HasNoList before
too_long before after failed failed' input.TooLong stops is =
    longer before after stops.bytes stops.read stops.cause
too_long before after failed failed' input.Read stops is = absurd cc
too_long before after failed failed' input.Memory stops is = absurd cc

-- the same text has the same fault
no_jobs : (whole text : List ℕ) (fault : JobsFault) → text ≡ whole → jobs_of text ≡ Err fault
    → IsErr (jobs_of whole)
no_jobs whole text fault same of =
    let whole_of : jobs_of whole ≡ Err fault = ap jobs_of (sym same) ∙ of in rw whole_of refl

-- the fault of the whole input is `Input` only if it is not a list of jobs
pub no_list : (input : Option (List ℕ)) (text : List ℕ) (fault : JobsFault) → IsTextOf input text
    → ReadsJobs text (Err fault) → jobs_fault fault ≡ program.Input → HasNoList input
no_list None text fault of reads is = tt
no_list (Some whole) text (jobs.Line number) of reads is = inr (no_jobs whole text _ of reads)
no_list (Some whole) text jobs.TooMany of reads is = inr (no_jobs whole text _ of reads)
no_list (Some whole) text jobs.Memory of reads is = absurd cc

-- the faults of an input and of a list
pub input_kind : (fault : InputFault) → is_of_files (input_fault fault) ≡ true
input_kind input.TooLong = refl
input_kind input.Read = refl
input_kind input.Memory = refl

pub jobs_kind : (fault : JobsFault) → is_of_files (jobs_fault fault) ≡ true
jobs_kind (jobs.Line number) = refl
jobs_kind jobs.TooMany = refl
jobs_kind jobs.Memory = refl
