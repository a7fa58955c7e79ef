use Rattle.std.proofs.Common.{◌≡◌, take}
use Rattle.cosem_names.specs.ObjectList.{method_entries}
use Rattle.cosem_names.proofs.object_entries.method_entries.Given as goal

abbrev pub invariant-loop-row : goal.invariant-loop-row
invariant-loop-row l = l.entries.items ≡ method_entries l.level l.class (take l.row-index l.rows)
