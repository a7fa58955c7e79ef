use Rattle.std.proofs.Common.{◌≡◌, take}
use Rattle.cosem_names.specs.ObjectList.{object_entries}
use Rattle.cosem_names.proofs.object_entries.object_entries.Given as goal

abbrev pub invariant-loop-row : goal.invariant-loop-row
invariant-loop-row l = l.entries.items ≡ object_entries l.level l.attributes l.methods
    (take l.row-index l.rows)
