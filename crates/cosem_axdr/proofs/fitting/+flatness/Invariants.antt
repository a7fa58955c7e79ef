use Rattle.std.proofs.Common.{◌≤◌, ◌↔◌, drop}
use Rattle.cosem_axdr.specs.Tree.{trees_of, nests}
use Rattle.cosem_axdr.specs.View.{all_trees}
use Rattle.cosem_axdr.proofs.fitting.+flatness.Given as goal

abbrev pub invariant-are_flat-loop-item : goal.invariant-are_flat-loop-item
invariant-are_flat-loop-item l = (nests (trees_of (all_trees (drop l.item-index l.items))) ≤
    l.levels) ↔ (nests (trees_of (all_trees l.items)) ≤ l.levels)
