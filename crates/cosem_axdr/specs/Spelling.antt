-- Which bytes spell which value (A-XDR: IEC 61334-6, IEC 62056-5-3), by cases on the value, and the
-- one spelling that is written.
--     IsLength, IsString, IsBits      a length in any of its forms, a string, a bit-string
--     Spells                          the tag of a value, followed by its contents
--     IsSpelling                      a spelling within the limits of nesting and of bytes
--     text                            the written spelling, with the shortest lengths
--     IsWithin, IsFine                numbers and bytes in the ranges of their types; items and
--                                     bits within the limits
--     IsFit                           a value whose text is within the limits
use Rattle.std.specs.Prelude.{◌≡◌, ◌⊎◌, ℕ, ◌+◌, ◌^◌, ◌<◌, ◌≤◌, Bool, not, ◌==◌, nat_lt, if◌then◌else◌, ℤ, FitsSigned, List, [], ◌∷◌, ◌++◌, length, slice_index}
use Rattle.std.specs.Int.{Width, w8, w16, w32, w64, byte_len, from_be_bytes, to_be_bytes, cast_signed, cast_unsigned, bytes_high_first}
use Rattle.wire_bytes.specs.Format.{IsJoined, IsTagged}
use Rattle.cosem_axdr.specs.Limits.{max_text, max_items, max_nesting, bytes_for, without_unused_bits}
use Rattle.cosem_axdr.specs.Reading.{big_endian}
use Rattle.cosem_axdr.specs.Tree.{Tree, Trees, count_of, nesting, null, array, structure, boolean, bit_string, double_long, double_long_unsigned, octet_string, visible_string, utf8_string, integer, long, unsigned, long_unsigned, long64, long64_unsigned, enumerated, date_time, date, time, no_trees, tree}

-- the tag of a value's type (IEC 62056-6-2, common data types)
abbrev pub tag_of : Tree → ℕ
tag_of null = 0x00
tag_of (array ts) = 0x01
tag_of (structure ts) = 0x02
tag_of (boolean b) = 0x03
tag_of (bit_string bits bytes) = 0x04
tag_of (double_long z) = 0x05
tag_of (double_long_unsigned n) = 0x06
tag_of (octet_string bytes) = 0x09
tag_of (visible_string bytes) = 0x0A
tag_of (utf8_string bytes) = 0x0C
tag_of (integer z) = 0x0F
tag_of (long z) = 0x10
tag_of (unsigned n) = 0x11
tag_of (long_unsigned n) = 0x12
tag_of (long64 z) = 0x14
tag_of (long64_unsigned n) = 0x15
tag_of (enumerated n) = 0x16
tag_of (date_time bytes) = 0x19
tag_of (date bytes) = 0x1A
tag_of (time bytes) = 0x1B

-- ---- what bytes spell

-- whether bytes are a length or count: one byte below 80 hex, or 81 to 84 hex and one to four
-- bytes, even if fewer would do
abbrev pub IsLength : List ℕ → ℕ → Type 0
IsLength [] n = ⊥
IsLength (first ∷ bytes) n = ((first < 0x80) × (bytes ≡ []) × (n ≡ first))
    ⊎ ((0x81 ≤ first) × (first ≤ 0x84) × (first ≡ 0x80 + length bytes) × (n ≡ big_endian bytes))

-- whether contents are the length of a string, followed by its bytes
pub record IsString (contents string : List ℕ) : Type 0 where
  pub length_text : List ℕ
  pub parts : contents ≡ length_text ++ string
  pub is_length : IsLength length_text (length string)

-- whether contents are the number of bits, followed by the bytes that hold them; their unused bits
-- are read as 0
pub record IsBits (contents : List ℕ) (bits : ℕ) (bytes : List ℕ) : Type 0 where
  pub length_text : List ℕ
  pub raw : List ℕ
  pub parts : contents ≡ length_text ++ raw
  pub is_length : IsLength length_text bits
  pub long : length raw ≡ bytes_for bits
  pub value : bytes ≡ without_unused_bits bits raw

-- whether contents are the number of items, within the limit, followed by the items
pub record IsCounted (AreItems : List ℕ → Type 0) (contents : List ℕ) (count : ℕ) : Type 0 where
  pub length_text : List ℕ
  pub items : List ℕ
  pub parts : contents ≡ length_text ++ items
  pub is_length : IsLength length_text count
  pub few : count ≤ max_items
  pub are_items : AreItems items

-- whether bytes are those of an unsigned number of a width, the highest first
abbrev pub IsUnsigned : Width → List ℕ → ℕ → Type 0
IsUnsigned w contents n = (length contents ≡ byte_len w) × (n ≡ from_be_bytes w contents)

-- whether bytes are those of a signed number of a width, in two's complement, the highest first
abbrev pub IsSigned : Width → List ℕ → ℤ → Type 0
IsSigned w contents z = (length contents ≡ byte_len w)
    × (z ≡ cast_signed w (from_be_bytes w contents))

-- whether bytes are a fixed number of bytes, unchanged
abbrev pub IsFixed : ℕ → List ℕ → List ℕ → Type 0
IsFixed n contents bytes = (length contents ≡ n) × (bytes ≡ contents)

-- whether a byte is a boolean: true if it is not 0
abbrev pub IsBoolean : List ℕ → Bool → Type 0
IsBoolean contents b = (byte : ℕ) × (contents ≡ byte ∷ []) × (b ≡ not (byte == 0))

-- the contents of a value, and consecutive items
abbrev mutual
  pub AreContents : List ℕ → Tree → Type 0
  AreContents contents null = contents ≡ []
  AreContents contents (array ts) = IsCounted (λ items. AreSpelled items ts) contents (count_of ts)
  AreContents contents (structure ts) =
      IsCounted (λ items. AreSpelled items ts) contents (count_of ts)
  AreContents contents (boolean b) = IsBoolean contents b
  AreContents contents (bit_string bits bytes) = IsBits contents bits bytes
  AreContents contents (double_long z) = IsSigned w32 contents z
  AreContents contents (double_long_unsigned n) = IsUnsigned w32 contents n
  AreContents contents (octet_string bytes) = IsString contents bytes
  AreContents contents (visible_string bytes) = IsString contents bytes
  AreContents contents (utf8_string bytes) = IsString contents bytes
  AreContents contents (integer z) = IsSigned w8 contents z
  AreContents contents (long z) = IsSigned w16 contents z
  AreContents contents (unsigned n) = IsUnsigned w8 contents n
  AreContents contents (long_unsigned n) = IsUnsigned w16 contents n
  AreContents contents (long64 z) = IsSigned w64 contents z
  AreContents contents (long64_unsigned n) = IsUnsigned w64 contents n
  AreContents contents (enumerated n) = IsUnsigned w8 contents n
  AreContents contents (date_time bytes) = IsFixed 12 contents bytes
  AreContents contents (date bytes) = IsFixed 5 contents bytes
  AreContents contents (time bytes) = IsFixed 4 contents bytes

  pub AreSpelled : List ℕ → Trees → Type 0
  AreSpelled bytes no_trees = bytes ≡ []
  AreSpelled bytes (tree t ts) =
      IsJoined (IsTagged (tag_of t) (λ contents. AreContents contents t))
      (λ others. AreSpelled others ts) bytes

-- whether bytes spell a value: its tag, followed by its contents
abbrev pub Spells : List ℕ → Tree → Type 0
Spells bytes t = IsTagged (tag_of t) (λ contents. AreContents contents t) bytes

-- whether bytes are a spelling of a value that a reader accepts: neither nested too deep nor too
-- long
pub record IsSpelling (bytes : List ℕ) (t : Tree) : Type 0 where
  pub spells : Spells bytes t
  pub flat : nesting t ≤ max_nesting
  pub short : length bytes ≤ max_text

-- ---- what is written

-- the shortest form of a length; the lowest four bytes of one of 2 ^ 32 or more
abbrev pub length_text : ℕ → List ℕ
length_text n =
    if nat_lt n 0x80 then n ∷ [] else
    if nat_lt n (2 ^ 8) then 0x81 ∷ bytes_high_first 1 n else
    if nat_lt n (2 ^ 16) then 0x82 ∷ bytes_high_first 2 n else
    if nat_lt n (2 ^ 24) then 0x83 ∷ bytes_high_first 3 n else
    0x84 ∷ bytes_high_first 4 n

-- the length of a string, followed by its bytes
abbrev pub string_text : List ℕ → List ℕ
string_text bytes = length_text (length bytes) ++ bytes

-- the written contents of a value, and of consecutive items
abbrev mutual
  pub contents_text : Tree → List ℕ
  contents_text null = []
  contents_text (array ts) = length_text (count_of ts) ++ texts ts
  contents_text (structure ts) = length_text (count_of ts) ++ texts ts
  contents_text (boolean b) = (if b then 0x01 else 0x00) ∷ []
  contents_text (bit_string bits bytes) = length_text bits ++ bytes
  contents_text (double_long z) = to_be_bytes w32 (cast_unsigned w32 z)
  contents_text (double_long_unsigned n) = to_be_bytes w32 n
  contents_text (octet_string bytes) = string_text bytes
  contents_text (visible_string bytes) = string_text bytes
  contents_text (utf8_string bytes) = string_text bytes
  contents_text (integer z) = to_be_bytes w8 (cast_unsigned w8 z)
  contents_text (long z) = to_be_bytes w16 (cast_unsigned w16 z)
  contents_text (unsigned n) = to_be_bytes w8 n
  contents_text (long_unsigned n) = to_be_bytes w16 n
  contents_text (long64 z) = to_be_bytes w64 (cast_unsigned w64 z)
  contents_text (long64_unsigned n) = to_be_bytes w64 n
  contents_text (enumerated n) = to_be_bytes w8 n
  contents_text (date_time bytes) = bytes
  contents_text (date bytes) = bytes
  contents_text (time bytes) = bytes

  pub texts : Trees → List ℕ
  texts no_trees = []
  texts (tree t ts) = (tag_of t ∷ contents_text t) ++ texts ts

-- the written spelling of a value
abbrev pub text : Tree → List ℕ
text t = tag_of t ∷ contents_text t

-- ---- which values fit

-- whether all numbers are bytes
abbrev pub IsBytes : List ℕ → Type 0
IsBytes bytes = (i : ℕ) → slice_index bytes i < 256

-- each number and each byte is in the range of its type: this holds of every Data that a program
-- can hold
abbrev mutual
  pub IsWithin : Tree → Type 0
  IsWithin null = Unit {0}
  IsWithin (array ts) = AreWithin ts
  IsWithin (structure ts) = AreWithin ts
  IsWithin (boolean b) = Unit {0}
  IsWithin (bit_string bits bytes) = (bits < 2 ^ 64) × IsBytes bytes
  IsWithin (double_long z) = FitsSigned w32 z
  IsWithin (double_long_unsigned n) = n < 2 ^ 32
  IsWithin (octet_string bytes) = IsBytes bytes
  IsWithin (visible_string bytes) = IsBytes bytes
  IsWithin (utf8_string bytes) = IsBytes bytes
  IsWithin (integer z) = FitsSigned w8 z
  IsWithin (long z) = FitsSigned w16 z
  IsWithin (unsigned n) = n < 2 ^ 8
  IsWithin (long_unsigned n) = n < 2 ^ 16
  IsWithin (long64 z) = FitsSigned w64 z
  IsWithin (long64_unsigned n) = n < 2 ^ 64
  IsWithin (enumerated n) = n < 2 ^ 8
  IsWithin (date_time bytes) = (length bytes ≡ 12) × IsBytes bytes
  IsWithin (date bytes) = (length bytes ≡ 5) × IsBytes bytes
  IsWithin (time bytes) = (length bytes ≡ 4) × IsBytes bytes

  pub AreWithin : Trees → Type 0
  AreWithin no_trees = Unit {0}
  AreWithin (tree t ts) = IsWithin t × AreWithin ts

-- no array or structure has more items than allowed, and each bit-string has exactly the bytes of
-- its bits, unused ones 0
abbrev mutual
  pub IsFine : Tree → Type 0
  IsFine null = Unit {0}
  IsFine (array ts) = (count_of ts ≤ max_items) × AreFine ts
  IsFine (structure ts) = (count_of ts ≤ max_items) × AreFine ts
  IsFine (boolean b) = Unit {0}
  IsFine (bit_string bits bytes) = (length bytes ≡ bytes_for bits)
      × (without_unused_bits bits bytes ≡ bytes)
  IsFine (double_long z) = Unit {0}
  IsFine (double_long_unsigned n) = Unit {0}
  IsFine (octet_string bytes) = Unit {0}
  IsFine (visible_string bytes) = Unit {0}
  IsFine (utf8_string bytes) = Unit {0}
  IsFine (integer z) = Unit {0}
  IsFine (long z) = Unit {0}
  IsFine (unsigned n) = Unit {0}
  IsFine (long_unsigned n) = Unit {0}
  IsFine (long64 z) = Unit {0}
  IsFine (long64_unsigned n) = Unit {0}
  IsFine (enumerated n) = Unit {0}
  IsFine (date_time bytes) = Unit {0}
  IsFine (date bytes) = Unit {0}
  IsFine (time bytes) = Unit {0}

  pub AreFine : Trees → Type 0
  AreFine no_trees = Unit {0}
  AreFine (tree t ts) = IsFine t × AreFine ts

-- whether a value is within all the limits of a reader
pub record IsFit (t : Tree) : Type 0 where
  pub within : IsWithin t
  pub fine : IsFine t
  pub flat : nesting t ≤ max_nesting
  pub short : length (text t) ≤ max_text
