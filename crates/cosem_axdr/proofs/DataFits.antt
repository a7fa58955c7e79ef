-- A Data that bytes spell fits: its numbers are in the ranges of their types, and its text is no
-- longer than those bytes.
use Rattle.std.proofs.Common.{◌≡◌, ℕ, zero, suc, ◌+◌, ◌-◌, ◌*◌, ◌/◌, ◌%◌, ◌^◌, ◌<◌, ◌≤◌, List, []}
use Rattle.std.proofs.Common.{◌∷◌, ◌++◌, length, slice_index, slice_set, ℤ, FitsSigned, refl, sym}
use Rattle.std.proofs.Common.{ap, subst, ◌∙◌, arith, inl, inr}
use Rattle.std.specs.Int.{Width, w8, w16, w32, w64, from_be_bytes, cast_signed}
use Rattle.std.proofs.Math.Facts.{Fits-bits, sfits_to_z}
use Rattle.std.proofs.Math.Nat.{div-mul-le_self, mul-div_cancel}
use Rattle.std.proofs.lemmas.Nat.{pow_pos}
use Rattle.std.proofs.lemmas.Bool.{lt-ltb}
use Rattle.std.proofs.lemmas.Bool.Decides.{nat_tests}
use Rattle.std.proofs.lemmas.List.{length-append, length-set, get_or-append-add}
use Rattle.cosem_axdr.specs.Limits.{highest_bits, without_unused_bits}
use Rattle.cosem_axdr.specs.Spelling.{IsLength, IsString, IsBits, IsUnsigned, IsSigned, IsFixed}
use Rattle.cosem_axdr.specs.Spelling.{AreContents, AreSpelled, IsSpelling, length_text, string_text}
use Rattle.cosem_axdr.specs.Spelling.{contents_text, texts, text, tag_of, IsBytes, IsWithin}
use Rattle.cosem_axdr.specs.Spelling.{AreWithin, IsFine, AreFine, IsFit}
use Rattle.cosem_axdr.specs.Tree.{Tree, Trees, count_of, null, array, structure, boolean}
use Rattle.cosem_axdr.specs.Tree.{bit_string, double_long, double_long_unsigned, octet_string}
use Rattle.cosem_axdr.specs.Tree.{visible_string, utf8_string, integer, long, unsigned}
use Rattle.cosem_axdr.specs.Tree.{long_unsigned, long64, long64_unsigned, enumerated, date_time}
use Rattle.cosem_axdr.specs.Tree.{date, time, no_trees, tree}

-- ---- bytes

-- the elements of the first of two joined texts are bytes
front_at : (a b : List ℕ) → IsBytes (a ++ b) → (i : ℕ) → slice_index a i < 256
front_at [] b bytes i = omega arith
front_at (x ∷ a) b bytes zero = bytes 0
front_at (x ∷ a) b bytes (suc i) = front_at a b (λ j. bytes (suc j)) i

pub front_bytes : (a b whole : List ℕ) → whole ≡ a ++ b → IsBytes whole → IsBytes a
front_bytes a b whole parts bytes = λ i. front_at a b (subst IsBytes parts bytes) i

-- and so are those of the second
pub back_bytes : (a b whole : List ℕ) → whole ≡ a ++ b → IsBytes whole → IsBytes b
back_bytes a b whole parts bytes = λ i.
    let given : slice_index (a ++ b) (length a + i) < 256 =
    subst IsBytes parts bytes (length a + i) in
    subst (λ (n : ℕ). n < 256) (get_or-append-add a b i 0) given

-- a byte replaced by a byte leaves bytes
set_at : (l : List ℕ) (j v : ℕ) → IsBytes l → v < 256 → (i : ℕ)
    → slice_index (slice_set l j v) i < 256
set_at [] j v bytes below i = bytes i
set_at (x ∷ l) zero v bytes below zero = below
set_at (x ∷ l) zero v bytes below (suc i) = bytes (suc i)
set_at (x ∷ l) (suc j) v bytes below zero = bytes 0
set_at (x ∷ l) (suc j) v bytes below (suc i) = set_at l j v (λ k. bytes (suc k)) below i

-- an idempotent change of one element is idempotent on the list
set_again : (f : ℕ → ℕ) → ((n : ℕ) → f (f n) ≡ f n) → (l : List ℕ) (i : ℕ) → let once =
    slice_set l i (f (slice_index l i)) in slice_set once i (f (slice_index once i)) ≡ once
set_again f same [] i = refl
set_again f same (x ∷ l) zero = ap (λ (n : ℕ). n ∷ l) (same x)
set_again f same (x ∷ l) (suc i) = ap (λ (xs : List ℕ). x ∷ xs) (set_again f same l i)

-- taking the highest bits twice is taking them once
highest_again : (k n : ℕ) → highest_bits k (highest_bits k n) ≡ highest_bits k n
highest_again k n = ap (λ (q : ℕ). q * 2 ^ (8 - k))
    (mul-div_cancel (n / 2 ^ (8 - k)) (pow_pos (8 - k)))

-- clearing bits twice is clearing them once
cleared_again : (k : ℕ) (raw : List ℕ) → without_unused_bits k (without_unused_bits k raw)
    ≡ without_unused_bits k raw
cleared_again k raw = set_again (highest_bits (k % 8)) (highest_again (k % 8)) raw (k / 8)

cleared_bytes : (k : ℕ) (raw : List ℕ) → IsBytes raw → IsBytes (without_unused_bits k raw)
cleared_bytes k raw bytes = λ i.
    let given = slice_index raw (k / 8) in
    let below : highest_bits (k % 8) given < 256 =
    omega (arith, div-mul-le_self given (2 ^ (8 - k % 8)), bytes (k / 8)) in
    set_at raw (k / 8) (highest_bits (k % 8) given) bytes below i

-- ---- lengths

-- any form of a length below 2 ^ 32 is at least as long as the shortest
pub length_is_short : (text : List ℕ) (n : ℕ) → IsBytes text → IsLength text n → (n < 2 ^ 32)
    × (length (length_text n) ≤ length text)
length_is_short [] n bytes is = absurd is
length_is_short (first ∷ more) n bytes (inl h) =
    let below : n < 0x80 = omega (arith, h.0, h.2) in
    (omega arith, rw (lt-ltb n 0x80 below) (omega arith))
length_is_short (first ∷ []) n bytes (inr h) = absurd (omega (arith, h.0, h.2))
length_is_short (first ∷ a ∷ []) n bytes (inr h) =
    let below : n < 2 ^ 8 = omega (arith, h.3, bytes 1) in
    (omega arith, grind (arith, nat_tests))
length_is_short (first ∷ a ∷ b ∷ []) n bytes (inr h) =
    let below : n < 2 ^ 16 = omega (arith, h.3, bytes 1, bytes 2) in
    (omega arith, grind (arith, nat_tests))
length_is_short (first ∷ a ∷ b ∷ c ∷ []) n bytes (inr h) =
    let below : n < 2 ^ 24 = omega (arith, h.3, bytes 1, bytes 2, bytes 3) in
    (omega arith, grind (arith, nat_tests))
length_is_short (first ∷ a ∷ b ∷ c ∷ d ∷ []) n bytes (inr h) =
    let below : n < 2 ^ 32 = omega (arith, h.3, bytes 1, bytes 2, bytes 3, bytes 4) in
    (below, grind (arith, nat_tests))
length_is_short (first ∷ a ∷ b ∷ c ∷ d ∷ e ∷ more) n bytes (inr h) =
    absurd (omega (arith, h.1, h.2))

-- ---- values

-- the bound of a number held in 1, 2, 4 or 8 bytes
below_8 : (s : List ℕ) → IsBytes s → from_be_bytes w8 s < 2 ^ 8
below_8 s bytes = omega (arith, bytes 0)

pub below_16 : (s : List ℕ) → IsBytes s → from_be_bytes w16 s < 2 ^ 16
below_16 s bytes = omega (arith, bytes 0, bytes 1)

pub below_32 : (s : List ℕ) → IsBytes s → from_be_bytes w32 s < 2 ^ 32
below_32 s bytes = omega (arith, bytes 0, bytes 1, bytes 2, bytes 3)

below_64 : (s : List ℕ) → IsBytes s → from_be_bytes w64 s < 2 ^ 64
below_64 s bytes = omega (
  arith,
  bytes 0,
  bytes 1,
  bytes 2,
  bytes 3,
  bytes 4,
  bytes 5,
  bytes 6,
  bytes 7,
)

-- what holds of a value whose contents these bytes spell
abbrev FitsIn : List ℕ → Tree → Type 0
FitsIn contents t = IsWithin t × IsFine t × (length (contents_text t) ≤ length contents)

pub unsigned_fits : (w : Width) (limit : ℕ) → ((s : List ℕ) → IsBytes s → from_be_bytes w s < limit)
    → (contents : List ℕ) (n : ℕ) → IsBytes contents → IsUnsigned w contents n → n < limit
unsigned_fits w limit below contents n bytes is = rw is.1 (below contents bytes)

signed_fits : (w : Width) (k : ℕ) → ((n : ℕ) → n < 2 ^ k → FitsSigned w (cast_signed w n))
    → ((s : List ℕ) → IsBytes s → from_be_bytes w s < 2 ^ k) → (contents : List ℕ) (z : ℤ)
    → IsBytes contents → IsSigned w contents z → FitsSigned w z
signed_fits w k fits below contents z bytes is =
    rw is.1 (fits (from_be_bytes w contents) (below contents bytes))

string_fits : (contents string : List ℕ) → IsBytes contents → IsString contents string
    → IsBytes string × Unit {0} × (length (string_text string) ≤ length contents)
string_fits contents string bytes is =
    let l = length_is_short is.length_text (length string)
    (front_bytes is.length_text string contents is.parts bytes) is.is_length in (
      back_bytes is.length_text string contents is.parts bytes,
      tt,
      omega (
        arith,
        l.1,
        length-append (length_text (length string)) string,
        length-append is.length_text string,
        ap (λ (s : List ℕ). length s) is.parts,
      ),
    )

fixed_fits : (n : ℕ) (contents bytes : List ℕ) → IsBytes contents → IsFixed n contents bytes
    → ((length bytes ≡ n) × IsBytes bytes) × Unit {0} × (length bytes ≤ length contents)
fixed_fits n contents bytes are is = rw is.1 ((is.0, are), tt, omega arith)

bits_fit : (contents : List ℕ) (k : ℕ) (bytes : List ℕ) → IsBytes contents → IsBits contents k bytes
    → FitsIn contents (bit_string k bytes)
bits_fit contents k bytes are is =
    let l = length_is_short is.length_text k (front_bytes is.length_text is.raw contents is.parts
    are) is.is_length in
    let raw : IsBytes is.raw = back_bytes is.length_text is.raw contents is.parts are in
    let len : length (without_unused_bits k is.raw) ≡ length is.raw = length-set is.raw (k / 8) _ in
    let done : FitsIn contents (bit_string k (without_unused_bits k is.raw)) = (
      (omega (arith, l.0), cleared_bytes k is.raw raw),
      (len ∙ is.long, cleared_again k is.raw),
      omega (
        arith,
        l.1,
        len,
        length-append (length_text k) (without_unused_bits k is.raw),
        length-append is.length_text is.raw,
        ap (λ (s : List ℕ). length s) is.parts,
      ),
    ) in
    subst (λ (s : List ℕ). FitsIn contents (bit_string k s)) (sym is.value) done

-- two texts, each no longer than another, are together no longer than the others together
joined_fit : (a b x y whole : List ℕ) → whole ≡ x ++ y → length a ≤ length x → length b ≤ length y
    → length (a ++ b) ≤ length whole
joined_fit a b x y whole parts first second =
    omega (arith, length-append a b, length-append x y, ap (λ (s : List ℕ). length s) parts)

-- what bytes spell fits: the contents of a value, and items one after the other
mutual
  contents_fit : (t : Tree) (contents : List ℕ) → IsBytes contents → AreContents contents t
      → FitsIn contents t
  contents_fit null contents bytes is = (tt, tt, omega arith)
  contents_fit (array ts) contents bytes is =
      let l = length_is_short is.length_text (count_of ts)
      (front_bytes is.length_text is.items contents is.parts bytes) is.is_length in
      let f = items_fit ts is.items (back_bytes is.length_text is.items contents is.parts bytes)
      is.are_items in (
        f.0,
        (is.few, f.1),
        joined_fit (length_text (count_of ts)) (texts ts) is.length_text is.items
            contents is.parts l.1 f.2,
      )
  contents_fit (structure ts) contents bytes is =
      let l = length_is_short is.length_text (count_of ts)
      (front_bytes is.length_text is.items contents is.parts bytes) is.is_length in
      let f = items_fit ts is.items (back_bytes is.length_text is.items contents is.parts bytes)
      is.are_items in (
        f.0,
        (is.few, f.1),
        joined_fit (length_text (count_of ts)) (texts ts) is.length_text is.items
            contents is.parts l.1 f.2,
      )
  contents_fit (boolean b) contents bytes is =
      (tt, tt, omega (arith, ap (λ (s : List ℕ). length s) is.1))
  contents_fit (bit_string k s) contents bytes is = bits_fit contents k s bytes is
  contents_fit (double_long z) contents bytes is = (
    signed_fits w32 32 (λ n lt. sfits_to_z (Fits-bits 32 tt lt)) below_32 contents z bytes is,
    tt,
    omega (arith, is.0),
  )
  contents_fit (double_long_unsigned n) contents bytes is =
      (unsigned_fits w32 (2 ^ 32) below_32 contents n bytes is, tt, omega (arith, is.0))
  contents_fit (octet_string s) contents bytes is = string_fits contents s bytes is
  contents_fit (visible_string s) contents bytes is = string_fits contents s bytes is
  contents_fit (utf8_string s) contents bytes is = string_fits contents s bytes is
  contents_fit (integer z) contents bytes is = (
    signed_fits w8 8 (λ n lt. sfits_to_z (Fits-bits 8 tt lt)) below_8 contents z bytes is,
    tt,
    omega (arith, is.0),
  )
  contents_fit (long z) contents bytes is = (
    signed_fits w16 16
        (λ n lt. sfits_to_z (Fits-bits 16 tt lt)) below_16 contents z bytes is,
    tt,
    omega (arith, is.0),
  )
  contents_fit (unsigned n) contents bytes is =
      (unsigned_fits w8 (2 ^ 8) below_8 contents n bytes is, tt, omega (arith, is.0))
  contents_fit (long_unsigned n) contents bytes is =
      (unsigned_fits w16 (2 ^ 16) below_16 contents n bytes is, tt, omega (arith, is.0))
  contents_fit (long64 z) contents bytes is = (
    signed_fits w64 64 (λ n lt. sfits_to_z (Fits-bits 64 tt lt)) below_64 contents z bytes is,
    tt,
    omega (arith, is.0),
  )
  contents_fit (long64_unsigned n) contents bytes is =
      (unsigned_fits w64 (2 ^ 64) below_64 contents n bytes is, tt, omega (arith, is.0))
  contents_fit (enumerated n) contents bytes is =
      (unsigned_fits w8 (2 ^ 8) below_8 contents n bytes is, tt, omega (arith, is.0))
  contents_fit (date_time s) contents bytes is = fixed_fits 12 contents s bytes is
  contents_fit (date s) contents bytes is = fixed_fits 5 contents s bytes is
  contents_fit (time s) contents bytes is = fixed_fits 4 contents s bytes is

  items_fit : (ts : Trees) (items : List ℕ) → IsBytes items → AreSpelled items ts → AreWithin ts
      × AreFine ts × (length (texts ts) ≤ length items)
  items_fit no_trees items bytes is = (tt, tt, omega arith)
  items_fit (tree t ts) items bytes is =
      let one = is.is_first in
      let own : IsBytes one.contents = back_bytes (tag_of t ∷ []) one.contents is.first one.parts
      (front_bytes is.first is.others items is.parts bytes) in
      let f = contents_fit t one.contents own one.are_contents in
      let g = items_fit ts is.others (back_bytes is.first is.others items is.parts bytes)
      is.are_others in
      let len : length (text t) ≤ length is.first =
      omega (arith, f.2, ap (λ (s : List ℕ). length s) one.parts) in (
        (f.0, g.0),
        (f.1, g.1),
        joined_fit (text t) (texts ts) is.first is.others items is.parts len
            g.2,
      )

-- a Data that bytes spell fits
pub spelled_data_fits : (bytes : List ℕ) (t : Tree) → IsBytes bytes → IsSpelling bytes t → IsFit t
spelled_data_fits bytes t are is =
    let own : IsBytes is.spells.contents =
    back_bytes (tag_of t ∷ []) is.spells.contents bytes is.spells.parts are in
    let f = contents_fit t is.spells.contents own is.spells.are_contents in
    record {
      within = f.0;
      fine = f.1;
      flat = is.flat;
      short = omega (arith, f.2, is.short, ap (λ (s : List ℕ). length s) is.spells.parts);
    }
