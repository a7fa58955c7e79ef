-- The value of a Data as one type (IEC 62056-6-2, common data types), or none if it has another
-- type. Each is one level deep; forms of several levels are composed of them.
use Rattle.std.specs.Prelude.{ℕ, ℤ, Bool, List, Option, Some, None}
use Rattle.cosem_axdr.specs.View.{list_of}
use Rattle.cosem_axdr.specs.declared.value.Data.{Data}
use Rattle.cosem_axdr.specs.declared.value.Data.TheVariants.{Array, Structure, OctetString, Boolean, DoubleLongUnsigned, LongUnsigned, Unsigned, Enum, Integer, DateTime, Date, Time}

-- the items of an array
abbrev pub array_of : Data → Option (List Data)
array_of (Array ts) = Some (list_of ts)
array_of _ = None

-- the items of a structure
abbrev pub structure_of : Data → Option (List Data)
structure_of (Structure ts) = Some (list_of ts)
structure_of _ = None

-- the bytes of an octet-string
abbrev pub octets_of : Data → Option (List ℕ)
octets_of (OctetString bytes) = Some bytes
octets_of _ = None

-- the value of a boolean
abbrev pub boolean_of : Data → Option Bool
boolean_of (Boolean b) = Some b
boolean_of _ = None

-- the number of a double-long-unsigned
abbrev pub double_long_unsigned_of : Data → Option ℕ
double_long_unsigned_of (DoubleLongUnsigned n) = Some n
double_long_unsigned_of _ = None

-- the number of a long-unsigned
abbrev pub long_unsigned_of : Data → Option ℕ
long_unsigned_of (LongUnsigned n) = Some n
long_unsigned_of _ = None

-- the number of an unsigned
abbrev pub unsigned_of : Data → Option ℕ
unsigned_of (Unsigned n) = Some n
unsigned_of _ = None

-- the number of an enum
abbrev pub enumerated_of : Data → Option ℕ
enumerated_of (Enum n) = Some n
enumerated_of _ = None

-- the number of an integer
abbrev pub integer_of : Data → Option ℤ
integer_of (Integer z) = Some z
integer_of _ = None

-- the twelve bytes of a date-time
abbrev pub date_time_of : Data → Option (List ℕ)
date_time_of (DateTime bytes) = Some bytes
date_time_of _ = None

-- the five bytes of a date
abbrev pub date_of : Data → Option (List ℕ)
date_of (Date bytes) = Some bytes
date_of _ = None

-- the four bytes of a time
abbrev pub time_of : Data → Option (List ℕ)
time_of (Time bytes) = Some bytes
time_of _ = None
