-- The forms that values of several classes share (IEC 62056-6-2): an array, a structure, a logical
-- name, dates and times.
use Rattle.std.specs.Prelude.{ℕ, List, [], ◌∷◌, Option, Some, None, length, ◌==◌, if◌then◌else◌}
use Rattle.cosem_axdr.specs.Forms.{octets_of}
use Rattle.cosem_axdr.specs.Tree.{trees_of}
use Rattle.cosem_axdr.specs.View.{all_trees}
use Rattle.cosem_axdr.specs.declared.value.Data.{Data}
use Rattle.cosem_axdr.specs.declared.value.Data.TheVariants.{Array, Structure, OctetString, DateTime, Date, Time}
use Rattle.cosem_names.specs.declared.name.Obis.{Obis}

-- the array of these items
abbrev pub array_with : List Data → Data
array_with items = Array (trees_of (all_trees items))

-- the structure of these items
abbrev pub structure_with : List Data → Data
structure_with items = Structure (trees_of (all_trees items))

infixl 10 ◌>>=◌
-- the next part, if there is a first one
abbrev pub ◌>>=◌ : {A B : Type 0} → Option A → (A → Option B) → Option B
None >>= next = None
(Some x) >>= next = next x

-- the logical name of bytes, if there are exactly six
abbrev name_in : List ℕ → Option Obis
name_in (a ∷ b ∷ c ∷ d ∷ e ∷ f ∷ []) = Some (record { 0 = a ∷ b ∷ c ∷ d ∷ e ∷ f ∷ [] })
name_in _ = None

-- the logical name of a value, if it is an octet-string of six bytes
abbrev pub name_of : Data → Option Obis
name_of value = octets_of value >>= name_in

-- the bytes, if there are exactly n
abbrev pub bytes_of_length : ℕ → List ℕ → Option (List ℕ)
bytes_of_length n bytes = if length bytes == n then Some bytes else None

-- a date-time, or an octet-string of its twelve bytes
abbrev pub date_time_bytes_of : Data → Option (List ℕ)
date_time_bytes_of (OctetString bytes) = bytes_of_length 12 bytes
date_time_bytes_of (DateTime bytes) = bytes_of_length 12 bytes
date_time_bytes_of _ = None

-- a date, or an octet-string of its five bytes
abbrev pub date_bytes_of : Data → Option (List ℕ)
date_bytes_of (OctetString bytes) = bytes_of_length 5 bytes
date_bytes_of (Date bytes) = bytes_of_length 5 bytes
date_bytes_of _ = None

-- a time, or an octet-string of its four bytes
abbrev pub time_bytes_of : Data → Option (List ℕ)
time_bytes_of (OctetString bytes) = bytes_of_length 4 bytes
time_bytes_of (Time bytes) = bytes_of_length 4 bytes
time_bytes_of _ = None
