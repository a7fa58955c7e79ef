-- The parts of a limiter's emergency profile and of its actions as a client writes them (IEC
-- 62056-6-2, class 71, emergency_profile and actions): nothing if a type differs.
use Rattle.std.specs.Prelude.{ℕ, List, [], ◌∷◌, Option, Some, None}
use Rattle.cosem_axdr.specs.declared.value.Data.{Data}
use Rattle.cosem_axdr.specs.Forms.{structure_of, double_long_unsigned_of, long_unsigned_of}
use Rattle.cosem_names.specs.declared.scripts.NamedScript.{NamedScript}
use Rattle.cosem_names.specs.Forms.{◌>>=◌, date_time_bytes_of}
use Rattle.cosem_names.specs.Scripts.{script_of}

-- the id, the start and the duration of an emergency profile, from the three items of its structure
abbrev profile_parts_in : List Data → Option (ℕ × List ℕ × ℕ)
profile_parts_in (id ∷ start ∷ duration ∷ []) = do
  number ← long_unsigned_of id
  bytes ← date_time_bytes_of start
  seconds ← double_long_unsigned_of duration
  Some (number, bytes, seconds)
profile_parts_in _ = None

-- the id, the start and the duration of an emergency profile, from a structure of the three
abbrev pub profile_parts_of : Data → Option (ℕ × List ℕ × ℕ)
profile_parts_of value = structure_of value >>= profile_parts_in

-- the script that runs over the threshold and the one that runs under it, from the two items of
-- actions
abbrev scripts_with : List Data → Option (NamedScript × NamedScript)
scripts_with (over ∷ under ∷ []) = do
  over_script ← script_of over
  under_script ← script_of under
  Some (over_script, under_script)
scripts_with _ = None

-- the script that runs over the threshold and the one that runs under it, from a structure of the
-- two
abbrev pub scripts_of : Data → Option (NamedScript × NamedScript)
scripts_of value = structure_of value >>= scripts_with
