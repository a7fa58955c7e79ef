use Rattle.std.proofs.Common.{◌≡◌, take}
use Rattle.cosem_names.specs.ObjectList.{attribute_entries}
use Rattle.cosem_names.proofs.object_entries.attribute_entries.Given as goal

abbrev pub invariant-loop-row : goal.invariant-loop-row
invariant-loop-row l = l.entries.items ≡ attribute_entries l.level l.class (take l.row-index l.rows)
