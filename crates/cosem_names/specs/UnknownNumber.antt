-- Finding a value by its number.
use Rattle.std.specs.Prelude.{◌≡◌, ℕ, Option, Result, ok_or}
use Rattle.cosem_names.specs.declared.unknown_number.UnknownNumber.{UnknownNumber}

-- whether a result is the value that has this number, or an error with the number if no value has
-- it
abbrev pub Finds : {A : Type 0} → (ℕ → Option A) → ℕ → Result A UnknownNumber → Type 0
Finds value_of number result = result ≡ ok_or (value_of number) (record { 0 = number })
