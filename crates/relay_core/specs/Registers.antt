-- The registers of active power: their attributes other than the logical name, and their values
-- (IEC 62056-6-2, class 3). All are read-only.
use Rattle.std.specs.Prelude.{ℕ, pos, Bool, true, false, [], ◌∷◌, Option, Some, None, ◌==◌, if◌then◌else◌}
use Rattle.cosem_axdr.specs.declared.value.Data.{Data}
use Rattle.cosem_axdr.specs.declared.value.Data.TheVariants.{Enum, Integer, DoubleLongUnsigned}
use Rattle.cosem_names.specs.Forms.{structure_with}
use Rattle.relay_core.specs.declared.registers.RegisterAttribute.{RegisterAttribute}
use Rattle.relay_core.specs.declared.registers.RegisterAttribute.TheVariants.{Value, ScalerUnit}

-- attribute 2, value, and attribute 3, scaler_unit
abbrev pub attribute_numbered : ℕ → Option RegisterAttribute
attribute_numbered number =
    if number == 2 then Some Value
    else if number == 3 then Some ScalerUnit
    else None

-- an attribute of a register whose value is `watts`: scaler 0 (10 to the power 0), and the unit W,
-- number 27
abbrev pub data_at : RegisterAttribute → ℕ → Data
data_at Value watts = DoubleLongUnsigned watts
data_at ScalerUnit watts = structure_with (Integer (pos 0) ∷ Enum 27 ∷ [])

-- whether the attribute is a number, so that reading it never allocates
abbrev pub is_plain : RegisterAttribute → Bool
is_plain Value = true
is_plain ScalerUnit = false
