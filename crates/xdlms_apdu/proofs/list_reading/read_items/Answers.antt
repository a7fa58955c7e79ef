use Rattle.std.proofs.lemmas.Result.{err_from_is_err_and}
use Rattle.wire_bytes.specs.Format.{items_read}
use Rattle.wire_bytes.proofs.Items.{ends}
use Rattle.xdlms_apdu.specs.declared.fault.ApduFault.TheVariants.{Memory}
use Rattle.xdlms_apdu.proofs.list_reading.read_items.Goals as goal

pub returns-in_err-read : goal.returns-in_err-read
returns-in_err-read g c =
    let p = err_from_is_err_and c.from_residual-in_err-read.result
    c.from_residual-in_err-read.ensures.1 in
    let item_read = g.T.ListItem.part.read in
    rw (p.1, p.2) (ends item_read Memory c.in_err-read.field-0.0 c.items.items.items
    c.args.count
    c.items.counter c.items.reader (items_read item_read c.args.count c.args.reader.now)
    c.items-test.true c.in_err-read.ensures c.items.invariant)
