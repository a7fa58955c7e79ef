-- Reading a Data from the front of bytes (A-XDR: IEC 61334-6, IEC 62056-5-3), with the first fault
-- found. The order of the faults is this meter's choice.
--     Place                    the remaining bytes, and how many of them a Data may still use
--     bytes_at                 the next bytes, requested at once: TooLong before Truncated
--     length_at .. leaf_at     a length, a string, a number, a bit-string, a value of a fixed
--                              length, a value with no items
--     counted_at, value_at     a counted list of items, a value
--     first_data               the Data at the front of bytes, and its number of bytes
use Rattle.std.specs.Prelude.{◌≡◌, ℕ, zero, suc, ◌+◌, ◌-◌, ◌*◌, not, ◌&&◌, List, [], ◌∷◌, length, take, drop, fold, Result, Ok, Err, nat_lt, nat_le, ◌==◌, slice_index, if◌then◌else◌}
use Rattle.std.specs.Int.{Width, w8, w16, w32, w64, byte_len, from_be_bytes, cast_signed}
use Rattle.wire_bytes.specs.Format.{items_read}
use Rattle.wire_bytes.specs.Outcome.{◌>>=◌, ◌>>◌, guard, Fails}
use Rattle.wire_bytes.specs.Reading.{read_as}
use Rattle.cosem_axdr.specs.Limits.{max_text, max_items, max_nesting, bytes_for, without_unused_bits}
use Rattle.cosem_axdr.specs.Tree.{Trees, trees_of}
use Rattle.cosem_axdr.specs.View.{all_trees}
use Rattle.cosem_axdr.specs.declared.fault.DataFault.{DataFault}
use Rattle.cosem_axdr.specs.declared.fault.DataFault.TheVariants.{Truncated, UnknownTag, TooDeep, TooLong, Memory}
use Rattle.cosem_axdr.specs.declared.value.Data.{Data}
use Rattle.cosem_axdr.specs.declared.value.Data.TheVariants.{Null, Array, Structure, Boolean, DoubleLong, DoubleLongUnsigned, OctetString, VisibleString, Utf8String, Integer, Long, Unsigned, LongUnsigned, Long64, Long64Unsigned, Enum, DateTime, Date, Time, BitString}

-- a place in the bytes: the remaining bytes, and how many of them a Data may still use
pub record Place : Type 0 where
  pub bytes : List ℕ
  pub room : ℕ

-- the place at the front of bytes
abbrev pub start : List ℕ → Place
start bytes = record { bytes = bytes; room = max_text }

-- the outcome of a reader of X: the value and the place after it, or the first fault
abbrev pub Read : Type 0 → Type 0
Read X = Result (X × Place) DataFault

-- whether a step of the code that advances through the bytes has the outcome of the definition, or
-- is out of memory
abbrev pub Reads : {X Y : Type 0} → (X → Y) → Result X DataFault → Place → Read Y → Type 0
Reads view (Ok x) new given = given ≡ Ok (view x, new)
Reads view (Err fault) new given = Fails Memory fault given

-- the next bytes, requested at once: first those past the limit of a Data are refused, then those
-- past the end
abbrev pub bytes_at : ℕ → Place → Read (List ℕ)
bytes_at n place = do
  guard (nat_le n place.room) TooLong
  guard (nat_le n (length place.bytes)) Truncated
  Ok (take n place.bytes, record { bytes = drop n place.bytes; room = place.room - n })

-- the next byte
abbrev pub byte_at : Place → Read ℕ
byte_at place = read_as (λ bytes. slice_index bytes 0) (bytes_at 1 place)

-- the number that bytes hold, the highest first
abbrev pub big_endian : List ℕ → ℕ
big_endian bytes = fold (λ n byte. n * 256 + byte) 0 bytes

-- a length: one byte below 80 hex, or 81 to 84 hex followed by one to four bytes
unfoldable pub length_at : Place → Read ℕ
length_at place = do
  first ← byte_at place
  if nat_lt first.0 0x80 then Ok first else do
    guard (nat_lt 0x80 first.0 && nat_le first.0 0x84) TooLong
    read_as big_endian (bytes_at (first.0 - 0x80) first.1)

-- a string: its length, followed by its bytes
unfoldable pub string_at : Place → Read (List ℕ)
string_at place = do
  n ← length_at place
  bytes_at n.0 n.1

-- an unsigned number of a width, the highest byte first
abbrev pub unsigned_at : Width → Place → Read ℕ
unsigned_at w place = read_as (from_be_bytes w) (bytes_at (byte_len w) place)

-- a bit-string: the number of its bits, and the bytes that hold them with unused bits set to 0
unfoldable pub bits_at : Place → Read Data
bits_at place = do
  bits ← length_at place
  bytes ← bytes_at (bytes_for bits.0) bits.1
  Ok (BitString bits.0 (without_unused_bits bits.0 bytes.0), bytes.1)

-- a value of fixed length, by its tag
unfoldable pub fixed_at : ℕ → Place → Read Data
fixed_at tag place =
    if tag == 0x00 then Ok (Null, place) else
    if tag == 0x03 then read_as (λ byte. Boolean (not (byte == 0))) (byte_at place) else
    if tag == 0x05 then read_as (λ n. DoubleLong (cast_signed w32 n)) (unsigned_at w32 place) else
    if tag == 0x06 then read_as DoubleLongUnsigned (unsigned_at w32 place) else
    if tag == 0x0F then read_as (λ n. Integer (cast_signed w8 n)) (unsigned_at w8 place) else
    if tag == 0x10 then read_as (λ n. Long (cast_signed w16 n)) (unsigned_at w16 place) else
    if tag == 0x11 then read_as Unsigned (unsigned_at w8 place) else
    if tag == 0x12 then read_as LongUnsigned (unsigned_at w16 place) else
    if tag == 0x14 then read_as (λ n. Long64 (cast_signed w64 n)) (unsigned_at w64 place) else
    if tag == 0x15 then read_as Long64Unsigned (unsigned_at w64 place) else
    if tag == 0x16 then read_as Enum (unsigned_at w8 place) else
    if tag == 0x19 then read_as DateTime (bytes_at 12 place) else
    if tag == 0x1A then read_as Date (bytes_at 5 place) else
    if tag == 0x1B then read_as Time (bytes_at 4 place) else
    Err UnknownTag

-- the value of a tag that has no items
unfoldable pub leaf_at : ℕ → Place → Read Data
leaf_at tag place =
    if tag == 0x04 then bits_at place else
    if tag == 0x09 then read_as OctetString (string_at place) else
    if tag == 0x0A then read_as VisibleString (string_at place) else
    if tag == 0x0C then read_as Utf8String (string_at place) else
    fixed_at tag place

-- the number of items, followed by the items
unfoldable pub counted_at : (Place → Read Data) → Place → Read Trees
counted_at item_at place = do
  count ← length_at place
  guard (nat_le count.0 max_items) TooLong
  read_as (λ items. trees_of (all_trees items)) (items_read item_at count.0 count.1)

-- a value, whose items after the tag of an array or structure are read by the given reader
unfoldable pub value_at : (Place → Read Trees) → Place → Read Data
value_at counted place = do
  tag ← byte_at place
  if tag.0 == 0x01 then read_as Array (counted tag.1) else
      if tag.0 == 0x02 then read_as Structure (counted tag.1) else
      leaf_at tag.0 tag.1

-- the contents of an array or structure of at most this many levels; with none allowed, refused
-- before the count is read
unfoldable pub nested_at : ℕ → Place → Read Trees
nested_at zero place = Err TooDeep
nested_at (suc levels) place = counted_at (value_at (nested_at levels)) place

-- the Data at the front of bytes, and its number of bytes
unfoldable pub first_data : List ℕ → Result (Data × ℕ) DataFault
first_data bytes = do
  value ← value_at (nested_at max_nesting) (start bytes)
  Ok (value.0, length bytes - length value.1.bytes)
