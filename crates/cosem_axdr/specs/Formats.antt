-- Parts of an APDU in A-XDR as formats (A-XDR: IEC 61334-6, IEC 62056-5-3).
--     count, with_count     a length or count; elements after their count
--     raw, list             bytes after their length; items after their count
--     axdr_data             a Data
use Rattle.std.specs.Prelude.{ℕ, ◌^◌, ◌<◌, ◌-◌, ◌&&◌, nat_lt, nat_le, if◌then◌else◌, List, length}
use Rattle.std.specs.Prelude.{drop, Result, Ok, Err}
use Rattle.wire_bytes.specs.ByteFormats.{octets}
use Rattle.wire_bytes.specs.Format.{Format, iso, ◌▷◌, items}
use Rattle.wire_bytes.specs.Outcome.{◌>>=◌, ◌>>◌, guard}
use Rattle.wire_bytes.specs.Reading.{read_as, first_byte, first_bytes}
use Rattle.cosem_axdr.specs.Reading.{big_endian, first_data}
use Rattle.cosem_axdr.specs.Spelling.{IsLength, IsSpelling, length_text, text, IsFit}
use Rattle.cosem_axdr.specs.View.{tree_of}
use Rattle.cosem_axdr.specs.declared.value.Data.{Data}

-- a length or count: one byte below 80 hex, or 81 to 84 hex followed by one to four bytes
unfoldable pub count_read : {F : Type 0} → F → List ℕ → Result (ℕ × List ℕ) F
count_read fault bytes = do
  first ← first_byte fault bytes
  if nat_lt first.0 0x80 then Ok first else do
    guard (nat_lt 0x80 first.0 && nat_le first.0 0x84) fault
    read_as big_endian (first_bytes fault (first.0 - 0x80) first.1)

-- a length or count of at most four bytes; the shortest form is written
abbrev pub count : {F : Type 0} → F → Format ℕ F ℕ
count fault = record {
  read = count_read fault;
  text = length_text;
  Fits = λ n. n < 2 ^ 32;
  Spells = λ n bytes. IsLength bytes n;
}

-- a count followed by that number of elements
abbrev pub with_count : {F A : Type 0} → F → (ℕ → Format ℕ F (List A)) → Format ℕ F (List A)
with_count fault part = iso (λ p. p.1) (λ xs. (length xs, xs)) (count fault ▷ part)

-- a length followed by that number of bytes
abbrev pub raw : {F : Type 0} → F → Format ℕ F (List ℕ)
raw fault = with_count fault (octets fault)

-- a count followed by that number of items
abbrev pub list : {F A : Type 0} → F → Format ℕ F A → Format ℕ F (List A)
list fault item = with_count fault (items item)

-- what was read from the front of bytes, and the bytes after it; every fault becomes this one
abbrev pub front_or : {F G A : Type 0} → F → List ℕ → Result (A × ℕ) G → Result (A × List ℕ) F
front_or fault bytes (Ok x) = Ok (x.0, drop x.1 bytes)
front_or fault bytes (Err other) = Err fault

-- a Data within the limits of a reader, which count from its own tag
abbrev pub axdr_data : {F : Type 0} → F → Format ℕ F Data
axdr_data fault = record {
  read = λ bytes. front_or fault bytes (first_data bytes);
  text = λ value. text (tree_of value);
  Fits = λ value. IsFit (tree_of value);
  Spells = λ value bytes. IsSpelling bytes (tree_of value);
}
