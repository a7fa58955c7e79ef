-- The parts of an emergency profile that was written.
use Rattle.std.proofs.Common.{◌≡◌, ℕ, ◌==◌, cond, List, [], ◌∷◌, length, Option, Some, None, ap}
use Rattle.cosem_axdr.specs.declared.value.Data.TheVariants.{OctetString, LongUnsigned, DoubleLongUnsigned}
use Rattle.cosem_names.specs.Forms.{◌>>=◌, date_time_bytes_of, structure_with}
use Rattle.limiter_attributes.specs.Forms.{profile_parts_of}

-- a string of twelve bytes is that of a start
start_again : (bytes : List ℕ) → length bytes ≡ 12 → date_time_bytes_of (OctetString bytes)
    ≡ Some bytes
start_again bytes twelve = ap (λ (n : ℕ). cond (n == 12) (Some bytes) None) twelve

pub profile_parts_again : (id duration : ℕ) (bytes : List ℕ) → length bytes ≡ 12
    → profile_parts_of (structure_with (LongUnsigned id ∷ OctetString bytes
    ∷ DoubleLongUnsigned duration ∷ [])) ≡ Some (id, bytes, duration)
profile_parts_again id duration bytes twelve =
    ap (λ (o : Option (List ℕ)). o >>= next) (start_again bytes twelve)
  where
    next : List ℕ → Option (ℕ × List ℕ × ℕ)
    next b = Some (id, b, duration)
