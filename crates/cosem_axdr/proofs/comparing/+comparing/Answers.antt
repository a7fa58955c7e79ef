use Rattle.cosem_axdr.proofs.OneTree.{same_items}
use Rattle.cosem_axdr.proofs.comparing.+comparing.Goals as goal

pub items_are_same-returns : goal.items_are_same-returns
items_are_same-returns t c =
    same_items c.all_are_same.result c.deref.result.now c.deref-2.result.now
    c.items.inside.items.items c.others.inside.items.items c.args.items.now c.args.others.now
    c.all_are_same.ensures c.deref.ensures.value c.deref-2.ensures.value c.items.view_is
    c.others.view_is
