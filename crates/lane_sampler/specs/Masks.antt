-- The masks of values against a threshold: one bit for each value, in four words of 64 bits.
use Rattle.std.specs.Prelude.{◌≡◌, ℕ, Bool, ◌*◌, ◌/◌, ◌%◌, ◌<◌, ◌&&◌, nat_lt, if◌then◌else◌, List, [], ◌∷◌, length, map, take, drop, slice_index}
use Rattle.std.specs.Int.{bit_at}
use Rattle.std.specs.Simd.Lanes.{mask_l}
use Rattle.lane_sampler.specs.declared.lanes.Masks.{Masks}
use Rattle.lane_sampler.specs.declared.lanes.Word.{Word}

-- bit i of a list of words, of which the first has bits 0 to 63
abbrev pub mask_bit : List ℕ → ℕ → ℕ
mask_bit words i = bit_at (slice_index words (i / 64)) (i % 64)

-- whether each bit i is 1 exactly if there is a value i and it passes the test
pub record IsMask (test : ℕ → Bool) (values words : List ℕ) : Type 0 where
  pub bits : (i : ℕ) → i < 256 →
      mask_bit words i ≡ (if nat_lt i (length values) && test (slice_index values i) then 1 else 0)

-- whether a value is greater than the threshold: over it, as a limiter has it (IEC 62056-6-2, class
-- 71)
abbrev pub is_over : ℕ → ℕ → Bool
is_over threshold value = nat_lt threshold value

-- whether a value is less than the threshold: under it, as a limiter has it (IEC 62056-6-2, class
-- 71)
abbrev pub is_under : ℕ → ℕ → Bool
is_under threshold value = nat_lt value threshold

-- whether these are the masks of the values greater than the threshold and of those less than it
pub record AreMasks (values : List ℕ) (threshold : ℕ) (masks : Masks) : Type 0 where
  pub over : IsMask (is_over threshold) values masks.over
  pub under : IsMask (is_under threshold) values masks.under
  pub len : masks.len ≡ length values

-- the number whose binary digits, the lowest first, show which values pass the test
abbrev pub word_of : (ℕ → Bool) → List ℕ → ℕ
word_of test values = mask_l (map test values)

-- the word for values 64 * k to 64 * k + 63
abbrev pub word_at : (ℕ → Bool) → List ℕ → ℕ → ℕ
word_at test values k = word_of test (take 64 (drop (64 * k) values))

-- the four words for up to 256 values
unfoldable pub words_of : (ℕ → Bool) → List ℕ → List ℕ
words_of test values =
    word_at test values 0 ∷ word_at test values 1 ∷ word_at test values 2 ∷ word_at test values 3
    ∷ []

-- the masks of up to 256 values, as numbers
abbrev pub masks_of : List ℕ → ℕ → Masks
masks_of values threshold = record {
  over = words_of (is_over threshold) values;
  under = words_of (is_under threshold) values;
  len = length values;
}

-- the two words for up to 64 values
abbrev pub word_for : List ℕ → ℕ → Word
word_for values threshold = record {
  over = word_of (is_over threshold) values;
  under = word_of (is_under threshold) values;
}
