-- Items and the values of type Data from which they were made.
use Rattle.std.proofs.Common.{◌≡◌, ◌↔◌, IsTrue, Bool, length, List, [], ◌∷◌, refl, sym, ap, ap₂, ◌∙◌, arith}
use Rattle.cosem_axdr.specs.Tree.{Trees, no_trees, tree, trees_of, count_of}
use Rattle.cosem_axdr.specs.View.{all_trees, list_of}
use Rattle.cosem_axdr.specs.declared.value.Data.{Data}
pub use Rattle.cosem_axdr.specs.ViewLaws.{data_of-tree_of, tree_of-data_of, one_tree}

-- values of type Data converted to items and back are unchanged
pub list_of_trees : (ds : List Data) → list_of (trees_of (all_trees ds)) ≡ ds
list_of_trees [] = refl
list_of_trees (d ∷ ds) = ap₂ (λ (e : Data) (es : List Data). e ∷ es) (data_of-tree_of d)
    (list_of_trees ds)

-- items converted to values of type Data and back are unchanged
pub trees_of_list : (ts : Trees) → trees_of (all_trees (list_of ts)) ≡ ts
trees_of_list no_trees = refl
trees_of_list (tree t ts) = ap₂ tree (tree_of-data_of t) (trees_of_list ts)

-- the number of items is the number of values
pub count_of-trees_of : (ds : List Data) → count_of (trees_of (all_trees ds)) ≡ length ds
count_of-trees_of [] = refl
count_of-trees_of (d ∷ ds) = omega (arith, count_of-trees_of ds)

-- a count of zero means no items
pub count_of-none : (ts : Trees) → count_of ts ≡ 0 → ts ≡ no_trees
count_of-none no_trees none = refl
count_of-none (tree t ts) none = absurd (omega arith)

-- facts about the number of items
pub ruleset counted = (count_of-trees_of, count_of-none)

-- values of type Data with equal items are equal
pub one_list : (ds es : List Data) → trees_of (all_trees ds) ≡ trees_of (all_trees es) → ds ≡ es
one_list ds es same = sym (list_of_trees ds) ∙ ap list_of same ∙ list_of_trees es

-- a test of equality of two lists of values is one of their items
pub same_items : (r : Bool) (xs ys ds es : List Data) (ts us : Trees) → IsTrue r ↔ (xs ≡ ys) → xs
    ≡ ds → ys ≡ es → trees_of (all_trees ds) ≡ ts → trees_of (all_trees es) ≡ us
    → IsTrue r ↔ (ts ≡ us)
same_items r xs ys ds es ts us tells x y t u = (
  λ yes. sym t ∙ ap (λ (l : List Data). trees_of (all_trees l)) (sym x ∙ tells.0 yes ∙ y)
      ∙ u,
  λ one. tells.1 (x ∙ one_list ds es (t ∙ one ∙ sym u) ∙ sym y),
)
