use Rattle.cosem_axdr.proofs.Written.{all_are_counted}
use Rattle.cosem_axdr.proofs.measuring.+measuring.Goals as goal

pub items_len-returns : goal.items_len-returns
items_len-returns t c =
    all_are_counted c.loop-item.len 18446744073709551615 c.args.items.now c.loop-item.item-index
    c.loop-item-test.false c.loop-item.invariant.0 c.loop-item.invariant.1
