use Rattle.std.proofs.Common.{◌≡◌, take}
use Rattle.cosem_axdr.proofs.+copying.Given as goal

abbrev pub invariant-copying::clone_items-loop-item : goal.invariant-copying::clone_items-loop-item
invariant-copying::clone_items-loop-item l = l.copies.items ≡ take l.item-index l.items
