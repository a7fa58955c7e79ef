-- The parts of a table, a script and a step (IEC 62056-6-2, class 9, scripts) as a client writes
-- them: nothing if a type differs.
use Rattle.std.specs.Prelude.{ℕ, List, [], ◌∷◌, Option, Some, None, option_map, unwrap_or}
use Rattle.cosem_axdr.specs.declared.value.Data.{Data}
use Rattle.cosem_axdr.specs.Forms.{array_of, structure_of, long_unsigned_of, enumerated_of, integer_of}
use Rattle.cosem_names.specs.Forms.{◌>>=◌, name_of}
use Rattle.script_steps.specs.declared.action.Address.{Address}

-- the address and the parameter in the items of a step: service_id, class_id, logical_name, index
-- and parameter; nothing if a type or the number of items differs
abbrev pub step_parts_in : List Data → Option (Address × Data)
step_parts_in (service ∷ class ∷ name ∷ index ∷ parameter ∷ []) = do
  service_id ← enumerated_of service
  class_id ← long_unsigned_of class
  logical_name ← name_of name
  number ← integer_of index
  Some (
    record {
      service = service_id;
      class = record { 0 = class_id };
      name = logical_name;
      index = number;
    },
    parameter,
  )
step_parts_in _ = None

-- the address and the parameter of a step, which is a structure; nothing if a type differs
abbrev pub step_parts_of : Data → Option (Address × Data)
step_parts_of value = structure_of value >>= step_parts_in

-- the identifier and the steps in the items of a script: script_identifier and an array; nothing if
-- a type or the number of items differs
abbrev pub script_parts_in : List Data → Option (ℕ × List Data)
script_parts_in (identifier ∷ steps ∷ []) = do
  number ← long_unsigned_of identifier
  items ← array_of steps
  Some (number, items)
script_parts_in _ = None

-- the identifier of a script and the Data of its steps; nothing if a type differs
abbrev pub script_parts_of : Data → Option (ℕ × List Data)
script_parts_of value = structure_of value >>= script_parts_in

-- the identifier of a script, or 0 if the value is not a script
abbrev pub identifier_of : Data → ℕ
identifier_of value = unwrap_or (option_map (λ parts. parts.0) (script_parts_of value)) 0
