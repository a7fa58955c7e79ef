-- A sample, as it is read by a loop.
use Rattle.std.proofs.Common.{◌≡◌, ℕ, Result, Ok, Err, ap, inr}
use Rattle.wire_bytes.specs.Outcome.{◌>>=◌, Fails}
use Rattle.wire_bytes.proofs.OutcomeLemmas.{done}
use Rattle.trace_words.specs.Rows.{Word, Row}
use Rattle.trace_words.specs.Reading.{value_in}
use Rattle.trace_words.specs.Parts.{after_first}
use Rattle.trace_lines.specs.Parts.{sample_part}
use Rattle.trace_words.specs.declared.fault.RowFault.{RowFault}
use Rattle.trace_words.specs.declared.fault.RowFault.TheVariants.{Memory}

-- a sample is read
pub value_is : (word : Word) (words : Row) (n : ℕ) → value_in word ≡ Ok n
    → after_first sample_part word words ≡ Ok (n, words)
value_is word words n e = ap (λ (r : Result ℕ RowFault). r
    >>= λ (value : ℕ). done RowFault (value, words)) e

-- a word that is not a sample is refused
pub value_fails : (word : Word) (words : Row) (fault : RowFault) → value_in word ≡ Err fault
    → Fails Memory fault (after_first sample_part word words)
value_fails word words fault e = inr (ap (λ (r : Result ℕ RowFault). r
    >>= λ (value : ℕ). done RowFault (value, words)) e)
