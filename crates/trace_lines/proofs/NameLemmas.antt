-- A logical name is read from the six bytes that a word writes.
use Rattle.std.proofs.Common.{◌≡◌, Bool, cond, true, false, ◌==◌, List, ℕ, length}
use Rattle.std.proofs.Common.{Option, Some, None, Result, Ok, Err, refl, ap, ◌∙◌}
use Rattle.wire_bytes.specs.Outcome.{◌>>◌, ◌>>=◌, guard}
use Rattle.cosem_names.specs.declared.name.Obis.{Obis}
use Rattle.text_lines.specs.Hexadecimal.{bytes_of, bytes_sized, only_sized}
use Rattle.trace_words.specs.Rows.{Word, or_wrong}
use Rattle.trace_words.specs.declared.fault.RowFault.{RowFault}
use Rattle.trace_words.specs.declared.fault.RowFault.TheVariants.{Wrong}
use Rattle.trace_lines.specs.Reading.{name_in}

-- the name of six bytes
abbrev named : Option (List ℕ) → Result Obis RowFault
named (Some name) = Ok (record { 0 = name })
named None = Err Wrong

-- the name of bytes that are six, or are not
named_tested : (is_six : Bool) (bytes : List ℕ) → named (cond is_six (Some bytes) None)
    ≡ (guard is_six Wrong >> Ok (record { 0 = bytes }))
named_tested true bytes = refl
named_tested false bytes = refl

named_sized : (read : Option (List ℕ)) → named (only_sized 6 read)
    ≡ (or_wrong read >>= λ bytes. guard (length bytes == 6) Wrong >> Ok (record { 0 = bytes }))
named_sized (Some bytes) = named_tested (length bytes == 6) bytes
named_sized None = refl

-- a word that writes six bytes
pub name_found : (word : Word) (name : List ℕ) → Some name ≡ bytes_sized 6 word
    → Ok (record { 0 = name }) ≡ name_in word
unfolding name_in
name_found word name e = ap named e ∙ named_sized (bytes_of word)

-- a word that does not
pub name_missing : (word : Word) → None ≡ bytes_sized 6 word → Err Wrong ≡ name_in word
unfolding name_in
name_missing word e = ap named e ∙ named_sized (bytes_of word)
