use Rattle.std.proofs.Common.{◌≡◌, ◌++◌, drop}
use Rattle.std.specs.List.{flat_map}
use Rattle.cosem_axdr.specs.Appending.{Extends}
use Rattle.xdlms_apdu.proofs.list_writing.put_list.Given as goal

abbrev pub invariant-loop-item : goal.invariant-loop-item
invariant-loop-item g l =
    (l.out ++ flat_map g.T.ListItem.part.text (drop l.item-index l.items) ≡ l.initial.out
    ++ flat_map g.T.ListItem.part.text l.items)
    × Extends l.initial.out l.out
