-- Each item of an array or structure has a smaller depth than the whole, so a recursion over a Data
-- terminates.
use Rattle.std.specs.Prelude.{◌≤◌, max, List, [], ◌∷◌}
use Rattle.std.proofs.Common.{arith}
use denote.Param.Weighed.{most}
use Rattle.cosem_axdr.specs.Tree.{trees_of, nests}
use Rattle.cosem_axdr.specs.View.{all_trees}
use Rattle.cosem_axdr.specs.declared.value.Data.{Data}
use Rattle.cosem_axdr.specs.declared.value.Data.TheVariants as variants
use Rattle.cosem_axdr.specs.declared.value.Items.TheDeep.{deep-Data}

-- the greatest depth of the items is at most their declared depth
pub falls : (items : List Data) → max (most deep-Data items) 0 ≤ nests (trees_of (all_trees items))
falls [] = omega arith
falls (variants.Null ∷ ds) = omega (arith, falls ds)
falls ((variants.Array ts) ∷ ds) = omega (arith, falls ds)
falls ((variants.Structure ts) ∷ ds) = omega (arith, falls ds)
falls ((variants.Boolean b) ∷ ds) = omega (arith, falls ds)
falls ((variants.BitString bits bytes) ∷ ds) = omega (arith, falls ds)
falls ((variants.DoubleLong z) ∷ ds) = omega (arith, falls ds)
falls ((variants.DoubleLongUnsigned n) ∷ ds) = omega (arith, falls ds)
falls ((variants.OctetString bytes) ∷ ds) = omega (arith, falls ds)
falls ((variants.VisibleString bytes) ∷ ds) = omega (arith, falls ds)
falls ((variants.Utf8String bytes) ∷ ds) = omega (arith, falls ds)
falls ((variants.Integer z) ∷ ds) = omega (arith, falls ds)
falls ((variants.Long z) ∷ ds) = omega (arith, falls ds)
falls ((variants.Unsigned n) ∷ ds) = omega (arith, falls ds)
falls ((variants.LongUnsigned n) ∷ ds) = omega (arith, falls ds)
falls ((variants.Long64 z) ∷ ds) = omega (arith, falls ds)
falls ((variants.Long64Unsigned n) ∷ ds) = omega (arith, falls ds)
falls ((variants.Enum n) ∷ ds) = omega (arith, falls ds)
falls ((variants.DateTime bytes) ∷ ds) = omega (arith, falls ds)
falls ((variants.Date bytes) ∷ ds) = omega (arith, falls ds)
falls ((variants.Time bytes) ∷ ds) = omega (arith, falls ds)
