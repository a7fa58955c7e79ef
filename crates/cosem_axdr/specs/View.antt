-- A Data as its tree, and the inverse.
--     tree_of, data_of         a Data's tree, and the Data of a tree
--     all_trees, list_of       the trees of a list of values, and the values of items
use Rattle.std.specs.Prelude.{List, [], ◌∷◌, map}
use Rattle.cosem_axdr.specs.Tree.{Tree, Trees, null, array, structure, boolean, bit_string, double_long, double_long_unsigned, octet_string, visible_string, utf8_string, integer, long, unsigned, long_unsigned, long64, long64_unsigned, enumerated, date_time, date, time, no_trees, tree}
use Rattle.cosem_axdr.specs.declared.value.Data.{Data}
use Rattle.cosem_axdr.specs.declared.value.Data.TheVariants as variants

-- the tree of a Data
abbrev pub tree_of : Data → Tree
tree_of variants.Null = null
tree_of (variants.Array ts) = array ts
tree_of (variants.Structure ts) = structure ts
tree_of (variants.Boolean b) = boolean b
tree_of (variants.BitString bits bytes) = bit_string bits bytes
tree_of (variants.DoubleLong z) = double_long z
tree_of (variants.DoubleLongUnsigned n) = double_long_unsigned n
tree_of (variants.OctetString bytes) = octet_string bytes
tree_of (variants.VisibleString bytes) = visible_string bytes
tree_of (variants.Utf8String bytes) = utf8_string bytes
tree_of (variants.Integer z) = integer z
tree_of (variants.Long z) = long z
tree_of (variants.Unsigned n) = unsigned n
tree_of (variants.LongUnsigned n) = long_unsigned n
tree_of (variants.Long64 z) = long64 z
tree_of (variants.Long64Unsigned n) = long64_unsigned n
tree_of (variants.Enum n) = enumerated n
tree_of (variants.DateTime bytes) = date_time bytes
tree_of (variants.Date bytes) = date bytes
tree_of (variants.Time bytes) = time bytes

-- the Data of a tree
abbrev pub data_of : Tree → Data
data_of null = variants.Null
data_of (array ts) = variants.Array ts
data_of (structure ts) = variants.Structure ts
data_of (boolean b) = variants.Boolean b
data_of (bit_string bits bytes) = variants.BitString bits bytes
data_of (double_long z) = variants.DoubleLong z
data_of (double_long_unsigned n) = variants.DoubleLongUnsigned n
data_of (octet_string bytes) = variants.OctetString bytes
data_of (visible_string bytes) = variants.VisibleString bytes
data_of (utf8_string bytes) = variants.Utf8String bytes
data_of (integer z) = variants.Integer z
data_of (long z) = variants.Long z
data_of (unsigned n) = variants.Unsigned n
data_of (long_unsigned n) = variants.LongUnsigned n
data_of (long64 z) = variants.Long64 z
data_of (long64_unsigned n) = variants.Long64Unsigned n
data_of (enumerated n) = variants.Enum n
data_of (date_time bytes) = variants.DateTime bytes
data_of (date bytes) = variants.Date bytes
data_of (time bytes) = variants.Time bytes

-- the trees of values of type Data, in order
abbrev pub all_trees : List Data → List Tree
all_trees ds = map tree_of ds

-- items as values of type Data, in order
abbrev pub list_of : Trees → List Data
list_of no_trees = []
list_of (tree t ts) = data_of t ∷ list_of ts
