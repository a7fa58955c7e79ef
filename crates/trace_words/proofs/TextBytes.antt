-- The written text of a Data is bytes.
use Rattle.std.proofs.Common.{◌≡◌, ℕ, zero, suc, ◌<◌, ◌^◌, Bool, true, false, nat_lt, List, [], ◌∷◌, ◌++◌, length, refl, arith}
use Rattle.std.proofs.lemmas.Bool.Decides.{nat_tests}
use Rattle.std.specs.Prelude.{if◌then◌else◌}
use Rattle.std.specs.Int.{w8, w16, w32, w64, byte_at, bytes_high_first, cast_unsigned}
use Rattle.hex.specs.Hex.{IsBytes}
use Rattle.cosem_axdr.specs.Spelling.{tag_of, length_text, contents_text, texts, text, IsWithin, AreWithin, IsFit}
use Rattle.cosem_axdr.specs.Tree.{Tree, Trees, count_of, null, array, structure, boolean, bit_string, double_long, double_long_unsigned, octet_string, visible_string, utf8_string, integer, long, unsigned, long_unsigned, long64, long64_unsigned, enumerated, date_time, date, time, no_trees, tree}

-- ---- lists of bytes

pub no_bytes : IsBytes []
no_bytes i = omega arith

pub one_more_byte : (b : ℕ) (bytes : List ℕ) → b < 256 → IsBytes bytes → IsBytes (b ∷ bytes)
one_more_byte b bytes less are zero = less
one_more_byte b bytes less are (suc i) = are i

pub bytes_joined : (one other : List ℕ) → IsBytes one → IsBytes other → IsBytes (one ++ other)
bytes_joined [] other are others = others
bytes_joined (b ∷ one) other are others = one_more_byte b (one ++ other) (are 0)
    (bytes_joined one other (λ i. are (suc i)) others)

byte_is_small : (i n : ℕ) → byte_at i n < 256
byte_is_small zero n = omega arith
byte_is_small (suc i) n = omega arith

-- the bytes of a number
pub number_is_bytes : (k n : ℕ) → IsBytes (bytes_high_first k n)
number_is_bytes zero n = no_bytes
number_is_bytes (suc k) n = one_more_byte (byte_at k n) (bytes_high_first k n) (byte_is_small k n)
    (number_is_bytes k n)

-- ---- a Data's text

in_either : (P : List ℕ → Type 0) (test : Bool) (one other : List ℕ) → (test ≡ true → P one)
    → (test ≡ false → P other) → P (if test then one else other)
in_either P true one other if_so if_not = if_so refl
in_either P false one other if_so if_not = if_not refl

length_is_bytes : (n : ℕ) → IsBytes (length_text n)
length_is_bytes n =
    in_either IsBytes (nat_lt n 0x80) (n ∷ []) _
    (λ short. one_more_byte n [] (grind (arith, nat_tests)) no_bytes) (λ _.
    in_either IsBytes (nat_lt n (2 ^ 8)) (0x81 ∷ bytes_high_first 1 n) _
    (λ _. one_more_byte 0x81 (bytes_high_first 1 n) (omega arith) (number_is_bytes 1 n)) (λ _.
    in_either IsBytes (nat_lt n (2 ^ 16)) (0x82 ∷ bytes_high_first 2 n) _
    (λ _. one_more_byte 0x82 (bytes_high_first 2 n) (omega arith) (number_is_bytes 2 n)) (λ _.
    in_either IsBytes (nat_lt n (2 ^ 24)) (0x83 ∷ bytes_high_first 3 n) (0x84
    ∷ bytes_high_first 4 n) (λ _. one_more_byte 0x83 (bytes_high_first 3 n) (omega arith)
    (number_is_bytes 3 n))
    (λ _. one_more_byte 0x84 (bytes_high_first 4 n) (omega arith) (number_is_bytes 4 n)))))

tag_is_byte : (t : Tree) → tag_of t < 256
tag_is_byte null = omega arith
tag_is_byte (array ts) = omega arith
tag_is_byte (structure ts) = omega arith
tag_is_byte (boolean b) = omega arith
tag_is_byte (bit_string bits bytes) = omega arith
tag_is_byte (double_long z) = omega arith
tag_is_byte (double_long_unsigned n) = omega arith
tag_is_byte (octet_string bytes) = omega arith
tag_is_byte (visible_string bytes) = omega arith
tag_is_byte (utf8_string bytes) = omega arith
tag_is_byte (integer z) = omega arith
tag_is_byte (long z) = omega arith
tag_is_byte (unsigned n) = omega arith
tag_is_byte (long_unsigned n) = omega arith
tag_is_byte (long64 z) = omega arith
tag_is_byte (long64_unsigned n) = omega arith
tag_is_byte (enumerated n) = omega arith
tag_is_byte (date_time bytes) = omega arith
tag_is_byte (date bytes) = omega arith
tag_is_byte (time bytes) = omega arith

boolean_is_bytes : (b : Bool) → IsBytes (contents_text (boolean b))
boolean_is_bytes true = one_more_byte 1 [] (omega arith) no_bytes
boolean_is_bytes false = one_more_byte 0 [] (omega arith) no_bytes

string_is_bytes : (bytes : List ℕ) → IsBytes bytes → IsBytes (length_text (length bytes) ++ bytes)
string_is_bytes bytes are = bytes_joined (length_text (length bytes)) bytes
    (length_is_bytes (length bytes)) are

-- what is written after a tag, and items one after the other
mutual
  contents_are_bytes : (t : Tree) → IsWithin t → IsBytes (contents_text t)
  contents_are_bytes null within = no_bytes
  contents_are_bytes (array ts) within = bytes_joined (length_text (count_of ts)) (texts ts)
      (length_is_bytes (count_of ts)) (items_are_bytes ts within)
  contents_are_bytes (structure ts) within = bytes_joined (length_text (count_of ts)) (texts ts)
      (length_is_bytes (count_of ts)) (items_are_bytes ts within)
  contents_are_bytes (boolean b) within = boolean_is_bytes b
  contents_are_bytes (bit_string bits bytes) within =
      bytes_joined (length_text bits) bytes (length_is_bytes bits) within.1
  contents_are_bytes (double_long z) within = number_is_bytes 4 (cast_unsigned w32 z)
  contents_are_bytes (double_long_unsigned n) within = number_is_bytes 4 n
  contents_are_bytes (octet_string bytes) within = string_is_bytes bytes within
  contents_are_bytes (visible_string bytes) within = string_is_bytes bytes within
  contents_are_bytes (utf8_string bytes) within = string_is_bytes bytes within
  contents_are_bytes (integer z) within = number_is_bytes 1 (cast_unsigned w8 z)
  contents_are_bytes (long z) within = number_is_bytes 2 (cast_unsigned w16 z)
  contents_are_bytes (unsigned n) within = number_is_bytes 1 n
  contents_are_bytes (long_unsigned n) within = number_is_bytes 2 n
  contents_are_bytes (long64 z) within = number_is_bytes 8 (cast_unsigned w64 z)
  contents_are_bytes (long64_unsigned n) within = number_is_bytes 8 n
  contents_are_bytes (enumerated n) within = number_is_bytes 1 n
  contents_are_bytes (date_time bytes) within = within.1
  contents_are_bytes (date bytes) within = within.1
  contents_are_bytes (time bytes) within = within.1

  items_are_bytes : (ts : Trees) → AreWithin ts → IsBytes (texts ts)
  items_are_bytes no_trees within = no_bytes
  items_are_bytes (tree t ts) within = bytes_joined (text t) (texts ts)
      (one_more_byte (tag_of t) (contents_text t) (tag_is_byte t) (contents_are_bytes t within.0))
      (items_are_bytes ts within.1)

-- the written text of a value that fits is bytes
pub text_is_bytes : (t : Tree) → IsFit t → IsBytes (text t)
text_is_bytes t fit = one_more_byte (tag_of t) (contents_text t) (tag_is_byte t)
    (contents_are_bytes t fit.within)
