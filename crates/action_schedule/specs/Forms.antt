-- The parts of an entry as a client writes it (IEC 62056-6-2, class 22, execution_time): nothing if
-- a type differs.
use Rattle.std.specs.Prelude.{ℕ, List, [], ◌∷◌, Option, Some, None}
use Rattle.cosem_axdr.specs.declared.value.Data.{Data}
use Rattle.cosem_axdr.specs.Forms.{structure_of}
use Rattle.cosem_names.specs.Forms.{◌>>=◌, date_bytes_of, time_bytes_of}

-- the bytes of an entry's time and date, from the two items of its structure
abbrev entry_parts_in : List Data → Option (List ℕ × List ℕ)
entry_parts_in (time ∷ date ∷ []) = do
  of_time ← time_bytes_of time
  of_date ← date_bytes_of date
  Some (of_time, of_date)
entry_parts_in _ = None

-- the bytes of an entry's time and date, from a structure of the two
abbrev pub entry_parts_of : Data → Option (List ℕ × List ℕ)
entry_parts_of value = structure_of value >>= entry_parts_in
