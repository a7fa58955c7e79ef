-- Facts about each line of an opening that is read.
use Rattle.std.proofs.Common.{◌≡◌, ℕ, ◌≤◌, List, length, Result, Ok, Err, ap, arith, inr}
use Rattle.wire_bytes.specs.Outcome.{◌>>=◌, Fails}
use Rattle.wire_bytes.proofs.OutcomeLemmas.{done}
use Rattle.text_lines.proofs.HexadecimalLemmas.{bytes_only}
use Rattle.text_lines.specs.Hexadecimal.{bytes_of}
use Rattle.trace_openings.specs.OpeningFields.{id_from}
use Rattle.trace_words.specs.Reading.{bytes_in, number_in}
use Rattle.trace_words.specs.Rows.{Word, Row}
use Rattle.trace_words.specs.declared.fault.RowFault.{RowFault}
use Rattle.trace_words.specs.declared.fault.RowFault.TheVariants.{Memory}
use Rattle.trace_words.proofs.WordsBack.{wanted_is}

-- a word in hexadecimal has at least one byte
pub bytes_some : (word bytes : List ℕ) → bytes_in word ≡ Ok bytes → 1 ≤ length bytes
bytes_some word bytes e =
    let h = (bytes_only word bytes (wanted_is (bytes_of word) bytes e)).3 in
    omega (arith, h)

-- a group id is read
pub id_is : (word : Word) (words : Row) (n : ℕ) → number_in 65535 word ≡ Ok n → id_from word words
    ≡ Ok (n, words)
id_is word words n e = ap (λ (r : Result ℕ RowFault). r >>= λ (id : ℕ). done RowFault (id, words)) e

-- a word that is not a group id is refused
pub id_fails : (word : Word) (words : Row) (fault : RowFault) → number_in 65535 word ≡ Err fault
    → Fails Memory fault (id_from word words)
id_fails word words fault e = inr (ap (λ (r : Result ℕ RowFault). r
    >>= λ (id : ℕ). done RowFault (id, words)) e)
