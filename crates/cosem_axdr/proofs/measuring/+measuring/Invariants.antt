use Rattle.std.proofs.Common.{◌≡◌, ◌+◌, ◌≤◌, min, length, drop}
use Rattle.cosem_axdr.specs.Spelling.{texts}
use Rattle.cosem_axdr.specs.Tree.{trees_of}
use Rattle.cosem_axdr.specs.View.{all_trees}
use Rattle.cosem_axdr.proofs.measuring.+measuring.Given as goal

abbrev pub invariant-items_len-loop-item : goal.invariant-items_len-loop-item
invariant-items_len-loop-item l =
    (l.len ≤ 18446744073709551615)
    × (min (l.len + length (texts (trees_of (all_trees (drop l.item-index l.items)))))
    18446744073709551615 ≡ min (length (texts (trees_of (all_trees l.items))))
    18446744073709551615)
