-- The parts of a written entry.
use Rattle.std.proofs.Common.{◌≡◌, ℕ, List, [], ◌∷◌, length, Option, Some, ap₂, arith}
use Rattle.std.proofs.lemmas.Bool.Decides.{nat_tests}
use Rattle.cosem_axdr.specs.declared.value.Data.TheVariants.{OctetString}
use Rattle.cosem_names.specs.Forms.{◌>>=◌, bytes_of_length, structure_with}
use Rattle.action_schedule.specs.Forms.{entry_parts_of}

-- bytes of the expected number are accepted
bytes_of_length_again : (n : ℕ) (bytes : List ℕ) → length bytes ≡ n
    → bytes_of_length n bytes ≡ Some bytes
bytes_of_length_again n bytes e = grind (arith, nat_tests, e)

pub entry_parts_again : (time date : List ℕ) → length time ≡ 4 → length date ≡ 5
    → entry_parts_of (structure_with (OctetString time ∷ OctetString date ∷ [])) ≡ Some (time, date)
entry_parts_again time date four five = ap₂ (λ (o p : Option (List ℕ)). o >>= λ t. p
    >>= λ d. pair t d) (bytes_of_length_again 4 time four) (bytes_of_length_again 5 date five)
  where
    pair : List ℕ → List ℕ → Option (List ℕ × List ℕ)
    pair t d = Some (t, d)
