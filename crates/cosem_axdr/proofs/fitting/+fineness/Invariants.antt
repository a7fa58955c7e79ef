use Rattle.std.proofs.Common.{◌↔◌, drop}
use Rattle.cosem_axdr.specs.Spelling.{AreFine, AreWithin}
use Rattle.cosem_axdr.specs.Tree.{trees_of}
use Rattle.cosem_axdr.specs.View.{all_trees}
use Rattle.cosem_axdr.proofs.fitting.+fineness.Given as goal

abbrev pub invariant-are_fine-loop-item : goal.invariant-are_fine-loop-item
invariant-are_fine-loop-item l =
    (AreFine (trees_of (all_trees (drop l.item-index l.items)))
    ↔ AreFine (trees_of (all_trees l.items)))
    × (AreWithin (trees_of (all_trees (drop l.item-index l.items)))
    → AreWithin (trees_of (all_trees l.items)))
