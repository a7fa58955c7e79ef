use Rattle.std.proofs.Common.{rules}
use Rattle.cosem_axdr.specs.Appending.{Extends}
use Rattle.cosem_axdr.proofs.Appending.{extends_more, extends_on}
use Rattle.cosem_axdr.proofs.Written.{counted_is_written}
use Rattle.cosem_axdr.proofs.writing.+writing.Goals as goal

pub put_counted-returns-clause-ok : goal.put_counted-returns-clause-ok
put_counted-returns-clause-ok t c =
    counted_is_written c.args.out.now c.append_length.new.out c.loop-item.out c.args.items.now
    c.loop-item.item-index c.loop-item-test.false c.in_ok-append_length.ensures.ok
    c.loop-item.invariant.0

pub put_counted-returns-in_err-put_value-clause-extends :
    goal.put_counted-returns-in_err-put_value-clause-extends
put_counted-returns-in_err-put_value-clause-extends t c =
    let extended : Extends c.args.out.now c.put_value.new.out =
    extends_more _ c.in_ok-append_length.ensures.ok
    (extends_on c.loop-item.invariant.1 c.in_err-put_value.ensures.extends) in
    search rules
