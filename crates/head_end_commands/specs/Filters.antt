-- A filter of texts.
--     hash_of      the hash of a text
--     place_of     the place that a text marks
--     has_place    whether the place of a text is marked
use Rattle.std.specs.Prelude.{ℕ, ◌*◌, ◌%◌, ◌^◌, Bool, false, List, fold, bit_xor, slice_index_or}
use Rattle.head_end_commands.specs.declared.text_filter.TextFilter.{TextFilter}

-- the hash of a text by the function FNV-1a of 64 bits
abbrev pub hash_of : List ℕ → ℕ
hash_of text =
    fold (λ hash byte. bit_xor hash byte * 1099511628211 % 2 ^ 64) 14695981039346656037 text

-- the place that a text marks
abbrev pub place_of : List ℕ → ℕ
place_of text = hash_of text % 16384

-- whether the place of a text is marked
abbrev pub has_place : TextFilter → List ℕ → Bool
has_place filter text = slice_index_or filter.marks (place_of text) false
