-- A value of DLMS/COSEM Data (IEC 62056-6-2, common data types) as a finite tree, independent of
-- the memory that holds it.
--     Tree, Trees     a value by its type, and the items of an array or structure
--     trees_of        items from a list;  count_of: their number
--     nesting         the depth of arrays and structures in a value;  nests: in items
use Rattle.std.specs.Prelude.{ℕ, ◌+◌, max, ℤ, Bool, List, [], ◌∷◌}

-- a value: numbers and booleans as they are, strings and times as their bytes
mutual
  pub data Tree : Type 0 where
    null : Tree
    array : Trees → Tree
    structure : Trees → Tree
    boolean : Bool → Tree
    bit_string : (bits : ℕ) (bytes : List ℕ) → Tree
    double_long : ℤ → Tree
    double_long_unsigned : ℕ → Tree
    octet_string : List ℕ → Tree
    visible_string : List ℕ → Tree
    utf8_string : List ℕ → Tree
    integer : ℤ → Tree
    long : ℤ → Tree
    unsigned : ℕ → Tree
    long_unsigned : ℕ → Tree
    long64 : ℤ → Tree
    long64_unsigned : ℕ → Tree
    enumerated : ℕ → Tree
    date_time : List ℕ → Tree
    date : List ℕ → Tree
    time : List ℕ → Tree

  pub data Trees : Type 0 where
    no_trees : Trees
    tree : Tree → Trees → Trees

-- the items of a list, in order
abbrev pub trees_of : List Tree → Trees
trees_of [] = no_trees
trees_of (t ∷ ts) = tree t (trees_of ts)

-- the number of items
abbrev pub count_of : Trees → ℕ
count_of no_trees = 0
count_of (tree t ts) = count_of ts + 1

-- the maximum number of arrays and structures nested in each other
abbrev mutual
  pub nesting : Tree → ℕ
  nesting null = 0
  nesting (array ts) = nests ts + 1
  nesting (structure ts) = nests ts + 1
  nesting (boolean b) = 0
  nesting (bit_string bits bytes) = 0
  nesting (double_long z) = 0
  nesting (double_long_unsigned n) = 0
  nesting (octet_string bytes) = 0
  nesting (visible_string bytes) = 0
  nesting (utf8_string bytes) = 0
  nesting (integer z) = 0
  nesting (long z) = 0
  nesting (unsigned n) = 0
  nesting (long_unsigned n) = 0
  nesting (long64 z) = 0
  nesting (long64_unsigned n) = 0
  nesting (enumerated n) = 0
  nesting (date_time bytes) = 0
  nesting (date bytes) = 0
  nesting (time bytes) = 0

  pub nests : Trees → ℕ
  nests no_trees = 0
  nests (tree t ts) = max (nesting t) (nests ts)
