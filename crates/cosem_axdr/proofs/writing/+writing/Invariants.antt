use Rattle.std.proofs.Common.{◌≡◌, ◌++◌, drop}
use Rattle.cosem_axdr.specs.Appending.{Extends}
use Rattle.cosem_axdr.specs.Spelling.{texts}
use Rattle.cosem_axdr.specs.Tree.{trees_of}
use Rattle.cosem_axdr.specs.View.{all_trees}
use Rattle.cosem_axdr.proofs.writing.+writing.Given as goal

abbrev pub invariant-put_counted-loop-item : goal.invariant-put_counted-loop-item
invariant-put_counted-loop-item l =
    (l.out ++ texts (trees_of (all_trees (drop l.item-index l.items))) ≡ l.initial.out
    ++ texts (trees_of (all_trees l.items)))
    × Extends l.initial.out l.out
