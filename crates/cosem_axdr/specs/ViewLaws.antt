-- Converting a Data to its tree and back, or a tree to its Data and back, changes nothing.
use Rattle.std.proofs.Common.{◌≡◌, refl, sym, ap, ◌∙◌}
use Rattle.cosem_axdr.specs.Tree.{Tree, null, array, structure, boolean, bit_string, double_long, double_long_unsigned, octet_string, visible_string, utf8_string, integer, long, unsigned, long_unsigned, long64, long64_unsigned, enumerated, date_time, date, time}
use Rattle.cosem_axdr.specs.View.{tree_of, data_of}
use Rattle.cosem_axdr.specs.declared.value.Data.{Data}
use Rattle.cosem_axdr.specs.declared.value.Data.TheVariants as variants

-- a Data is the Data of its tree
pub data_of-tree_of : (d : Data) → data_of (tree_of d) ≡ d
data_of-tree_of variants.Null = refl
data_of-tree_of (variants.Array ts) = refl
data_of-tree_of (variants.Structure ts) = refl
data_of-tree_of (variants.Boolean b) = refl
data_of-tree_of (variants.BitString bits bytes) = refl
data_of-tree_of (variants.DoubleLong z) = refl
data_of-tree_of (variants.DoubleLongUnsigned n) = refl
data_of-tree_of (variants.OctetString bytes) = refl
data_of-tree_of (variants.VisibleString bytes) = refl
data_of-tree_of (variants.Utf8String bytes) = refl
data_of-tree_of (variants.Integer z) = refl
data_of-tree_of (variants.Long z) = refl
data_of-tree_of (variants.Unsigned n) = refl
data_of-tree_of (variants.LongUnsigned n) = refl
data_of-tree_of (variants.Long64 z) = refl
data_of-tree_of (variants.Long64Unsigned n) = refl
data_of-tree_of (variants.Enum n) = refl
data_of-tree_of (variants.DateTime bytes) = refl
data_of-tree_of (variants.Date bytes) = refl
data_of-tree_of (variants.Time bytes) = refl

-- a tree is the tree of its Data
pub tree_of-data_of : (t : Tree) → tree_of (data_of t) ≡ t
tree_of-data_of null = refl
tree_of-data_of (array ts) = refl
tree_of-data_of (structure ts) = refl
tree_of-data_of (boolean b) = refl
tree_of-data_of (bit_string bits bytes) = refl
tree_of-data_of (double_long z) = refl
tree_of-data_of (double_long_unsigned n) = refl
tree_of-data_of (octet_string bytes) = refl
tree_of-data_of (visible_string bytes) = refl
tree_of-data_of (utf8_string bytes) = refl
tree_of-data_of (integer z) = refl
tree_of-data_of (long z) = refl
tree_of-data_of (unsigned n) = refl
tree_of-data_of (long_unsigned n) = refl
tree_of-data_of (long64 z) = refl
tree_of-data_of (long64_unsigned n) = refl
tree_of-data_of (enumerated n) = refl
tree_of-data_of (date_time bytes) = refl
tree_of-data_of (date bytes) = refl
tree_of-data_of (time bytes) = refl

-- values of type Data with equal trees are equal
pub one_tree : (d e : Data) → tree_of d ≡ tree_of e → d ≡ e
one_tree d e same = sym (data_of-tree_of d) ∙ ap data_of same ∙ data_of-tree_of e
