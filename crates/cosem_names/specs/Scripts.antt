-- A script as other objects name it (IEC 62056-6-2: executed_script of class 22, actions of class
-- 71): a structure of a script table's logical name and a selector in that table.
use Rattle.std.specs.Prelude.{ℕ, Bool, List, [], ◌∷◌, Option, Some, None}
use Rattle.std.specs.Str.{bytes_eq}
use Rattle.cosem_axdr.specs.declared.value.Data.{Data}
use Rattle.cosem_axdr.specs.declared.value.Data.TheVariants.{OctetString, LongUnsigned}
use Rattle.cosem_axdr.specs.Forms.{structure_of, long_unsigned_of}
use Rattle.cosem_names.specs.declared.name.Obis.{Obis}
use Rattle.cosem_names.specs.declared.scripts.NamedScript.{NamedScript}
use Rattle.cosem_names.specs.Forms.{◌>>=◌, name_of, structure_with}
use Rattle.cosem_names.specs.Table.{obis}

-- the logical name of the meter's script table: 0.0.10.0.106.255 (IEC 62056-6-1, script table
-- objects)
abbrev pub script_table : Obis
script_table = obis 0 0 10 0 106 255

-- a script of that table
abbrev pub script_at : ℕ → NamedScript
script_at selector = record { table = script_table; selector = selector }

-- whether a script is one of that table
abbrev pub is_of_the_table : NamedScript → Bool
is_of_the_table script = bytes_eq script.table.0 script_table.0

-- the script that two items name: the logical name of a script table, and a selector in it
abbrev script_with : List Data → Option NamedScript
script_with (name ∷ selector ∷ []) = do
  table ← name_of name
  number ← long_unsigned_of selector
  Some (record { table = table; selector = number })
script_with _ = None

-- the script that a value names, if it is a structure of a logical name and a selector
abbrev pub script_of : Data → Option NamedScript
script_of value = structure_of value >>= script_with

-- the structure of a script
unfoldable pub script_data : NamedScript → Data
script_data script = structure_with (OctetString script.table.0 ∷ LongUnsigned script.selector ∷ [])
