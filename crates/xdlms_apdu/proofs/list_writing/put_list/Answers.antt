use Rattle.std.proofs.Common.{rules}
use Rattle.cosem_axdr.specs.Appending.{Extends}
use Rattle.cosem_axdr.proofs.Appending.{extends_more, extends_on}
use Rattle.xdlms_apdu.proofs.list_writing.put_list.Goals as goal

pub returns-in_err-put-clause-extends : goal.returns-in_err-put-clause-extends
returns-in_err-put-clause-extends g c =
    let extended : Extends c.args.out.now c.put.new.out =
    extends_more _ c.in_ok-append_length.ensures.ok
    (extends_on c.loop-item.invariant.1 c.in_err-put.ensures.extends) in
    search rules
