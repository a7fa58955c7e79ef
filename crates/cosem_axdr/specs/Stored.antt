-- The code by which proofs distinguish items: each tree as a tree of numbers with its tag first,
-- and the inverse.
use Rattle.std.specs.Prelude.{◌≡◌, ℕ, ℤ, pos, negsuc, Bool, true, false, List, [], ◌∷◌, ◌==◌, if◌then◌else◌, refl}
use Rattle.std.proofs.Common.{sym, ap, ap₂, ◌∙◌}
use base.Stored.{Gv, gnil, gnum, gcons, num, Coded}
use Rattle.cosem_axdr.specs.Tree.{Tree, Trees, null, array, structure, boolean, bit_string, double_long, double_long_unsigned, octet_string, visible_string, utf8_string, integer, long, unsigned, long_unsigned, long64, long64_unsigned, enumerated, date_time, date, time, no_trees, tree}

-- the first part of a pair
abbrev head : Gv → Gv
head gnil = gnil
head (gnum n) = gnil
head (gcons a b) = a

-- the second part of a pair
abbrev tail : Gv → Gv
tail gnil = gnil
tail (gnum n) = gnil
tail (gcons a b) = b

-- the code of a boolean: the number 1 for true and 0 for false
abbrev boolean_code : Bool → Gv
boolean_code true = gnum 1
boolean_code false = gnum 0

-- whether the boolean of a code is true: whether the code is the number 1
abbrev boolean_of_code : Gv → Bool
boolean_of_code g = num g == 1

-- the code of a boolean is read as the boolean
boolean_of_code-code : (b : Bool) → boolean_of_code (boolean_code b) ≡ b
boolean_of_code-code true = refl
boolean_of_code-code false = refl

-- the code of a signed number: 0 and n for the number n, and 1 and n for the number -1 - n
abbrev integer_code : ℤ → Gv
integer_code (pos n) = gcons (gnum 0) (gnum n)
integer_code (negsuc n) = gcons (gnum 1) (gnum n)

-- the signed number of a code: not negative if the first part is 0
abbrev integer_of_code : Gv → ℤ
integer_of_code g = if num (head g) == 0 then pos (num (tail g)) else negsuc (num (tail g))

-- the code of a signed number is read as the number
integer_of_code-code : (z : ℤ) → integer_of_code (integer_code z) ≡ z
integer_of_code-code (pos n) = refl
integer_of_code-code (negsuc n) = refl

-- the code of bytes: a chain of pairs, each of a byte and the code of the rest
abbrev octets_code : List ℕ → Gv
octets_code [] = gnil
octets_code (b ∷ bytes) = gcons (gnum b) (octets_code bytes)

-- the bytes of a code: the first parts of its chain of pairs
abbrev octets_of_code : Gv → List ℕ
octets_of_code gnil = []
octets_of_code (gnum n) = []
octets_of_code (gcons a b) = num a ∷ octets_of_code b

-- the code of bytes is read as the bytes
octets_of_code-code : (bytes : List ℕ) → octets_of_code (octets_code bytes) ≡ bytes
octets_of_code-code [] = refl
octets_of_code-code (b ∷ bytes) = ap (λ (rest : List ℕ). b ∷ rest) (octets_of_code-code bytes)

-- a tree as its tag and its contents, and consecutive items
abbrev mutual
  pub stored : Tree → Gv
  stored null = gcons (gnum 0x00) gnil
  stored (array ts) = gcons (gnum 0x01) (stored_all ts)
  stored (structure ts) = gcons (gnum 0x02) (stored_all ts)
  stored (boolean b) = gcons (gnum 0x03) (boolean_code b)
  stored (bit_string bits bytes) = gcons (gnum 0x04) (gcons (gnum bits) (octets_code bytes))
  stored (double_long z) = gcons (gnum 0x05) (integer_code z)
  stored (double_long_unsigned n) = gcons (gnum 0x06) (gnum n)
  stored (octet_string bytes) = gcons (gnum 0x09) (octets_code bytes)
  stored (visible_string bytes) = gcons (gnum 0x0A) (octets_code bytes)
  stored (utf8_string bytes) = gcons (gnum 0x0C) (octets_code bytes)
  stored (integer z) = gcons (gnum 0x0F) (integer_code z)
  stored (long z) = gcons (gnum 0x10) (integer_code z)
  stored (unsigned n) = gcons (gnum 0x11) (gnum n)
  stored (long_unsigned n) = gcons (gnum 0x12) (gnum n)
  stored (long64 z) = gcons (gnum 0x14) (integer_code z)
  stored (long64_unsigned n) = gcons (gnum 0x15) (gnum n)
  stored (enumerated n) = gcons (gnum 0x16) (gnum n)
  stored (date_time bytes) = gcons (gnum 0x19) (octets_code bytes)
  stored (date bytes) = gcons (gnum 0x1A) (octets_code bytes)
  stored (time bytes) = gcons (gnum 0x1B) (octets_code bytes)

  pub stored_all : Trees → Gv
  stored_all no_trees = gnil
  stored_all (tree t ts) = gcons (stored t) (stored_all ts)

-- the tree of a tag, its stored contents, and the items read from these
abbrev by_tag : ℕ → Gv → Trees → Tree
by_tag tag fields items =
    if tag == 0x01 then array items else
    if tag == 0x02 then structure items else
    if tag == 0x03 then boolean (boolean_of_code fields) else
    if tag == 0x04 then bit_string (num (head fields)) (octets_of_code (tail fields)) else
    if tag == 0x05 then double_long (integer_of_code fields) else
    if tag == 0x06 then double_long_unsigned (num fields) else
    if tag == 0x09 then octet_string (octets_of_code fields) else
    if tag == 0x0A then visible_string (octets_of_code fields) else
    if tag == 0x0C then utf8_string (octets_of_code fields) else
    if tag == 0x0F then integer (integer_of_code fields) else
    if tag == 0x10 then long (integer_of_code fields) else
    if tag == 0x11 then unsigned (num fields) else
    if tag == 0x12 then long_unsigned (num fields) else
    if tag == 0x14 then long64 (integer_of_code fields) else
    if tag == 0x15 then long64_unsigned (num fields) else
    if tag == 0x16 then enumerated (num fields) else
    if tag == 0x19 then date_time (octets_of_code fields) else
    if tag == 0x1A then date (octets_of_code fields) else
    if tag == 0x1B then time (octets_of_code fields) else
    null

-- a cell decoded as a tree and as items at once
abbrev pub decoded_cell : Gv → Tree × Trees
decoded_cell gnil = (null, no_trees)
decoded_cell (gnum n) = (null, no_trees)
decoded_cell (gcons a b) = (
  by_tag (num a) b (decoded_cell b).1,
  tree (decoded_cell a).0
      (decoded_cell b).1,
)

-- decoding a stored tree returns the tree
mutual
  pub stored_back : (t : Tree) → (decoded_cell (stored t)).0 ≡ t
  stored_back null = refl
  stored_back (array ts) = ap array (stored_all_back ts)
  stored_back (structure ts) = ap structure (stored_all_back ts)
  stored_back (boolean b) = ap boolean (boolean_of_code-code b)
  stored_back (bit_string bits bytes) = ap (bit_string bits) (octets_of_code-code bytes)
  stored_back (double_long z) = ap double_long (integer_of_code-code z)
  stored_back (double_long_unsigned n) = refl
  stored_back (octet_string bytes) = ap octet_string (octets_of_code-code bytes)
  stored_back (visible_string bytes) = ap visible_string (octets_of_code-code bytes)
  stored_back (utf8_string bytes) = ap utf8_string (octets_of_code-code bytes)
  stored_back (integer z) = ap integer (integer_of_code-code z)
  stored_back (long z) = ap long (integer_of_code-code z)
  stored_back (unsigned n) = refl
  stored_back (long_unsigned n) = refl
  stored_back (long64 z) = ap long64 (integer_of_code-code z)
  stored_back (long64_unsigned n) = refl
  stored_back (enumerated n) = refl
  stored_back (date_time bytes) = ap date_time (octets_of_code-code bytes)
  stored_back (date bytes) = ap date (octets_of_code-code bytes)
  stored_back (time bytes) = ap time (octets_of_code-code bytes)

  pub stored_all_back : (ts : Trees) → (decoded_cell (stored_all ts)).1 ≡ ts
  stored_all_back no_trees = refl
  stored_all_back (tree t ts) = ap₂ tree (stored_back t) (stored_all_back ts)

-- the code of items, for models whose values contain items
abbrev pub coded_trees : Coded Trees
coded_trees = record {
  code = stored_all;
  inj = λ x y e. sym (stored_all_back x) ∙ ap (λ g. (decoded_cell g).1) e ∙ stored_all_back y;
}
