-- The limits of a Data that is read or written, and the unused bits of a bit-string.
use Rattle.std.specs.Prelude.{ℕ, ◌+◌, ◌-◌, ◌*◌, ◌/◌, ◌%◌, ◌^◌, List, slice_index, slice_set}

-- the maximum number of bytes of the text of a Data
abbrev pub max_text : ℕ
max_text = 8192

-- the maximum number of items of an array or structure
abbrev pub max_items : ℕ
max_items = 255

-- the maximum number of arrays and structures nested in each other
abbrev pub max_nesting : ℕ
max_nesting = 8

-- the number of bytes that hold this number of bits
abbrev pub bytes_for : ℕ → ℕ
bytes_for bits = (bits + 7) / 8

-- a byte with all but its highest bits set to 0
abbrev pub highest_bits : ℕ → ℕ → ℕ
highest_bits bits byte = byte / 2 ^ (8 - bits) * 2 ^ (8 - bits)

-- the bytes of a bit-string with the bits past its count set to 0; these are in the byte in which
-- the count ends, if it ends within one
abbrev pub without_unused_bits : ℕ → List ℕ → List ℕ
without_unused_bits bits bytes =
    slice_set bytes (bits / 8) (highest_bits (bits % 8) (slice_index bytes (bits / 8)))
