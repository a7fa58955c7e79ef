use Rattle.std.proofs.lemmas.Result.{err_from_is_err_and}
use Rattle.wire_bytes.specs.Format.{items_read}
use Rattle.wire_bytes.proofs.Items.{ends}
use Rattle.cosem_axdr.specs.Reading.{nested_at, value_at}
use Rattle.cosem_axdr.specs.declared.fault.DataFault.TheVariants.{Memory}
use Rattle.cosem_axdr.proofs.reading.+reading.Goals as goal

pub read_items-returns-in_err-read_value : goal.read_items-returns-in_err-read_value
read_items-returns-in_err-read_value t c =
    let p = err_from_is_err_and c.from_residual.result c.from_residual.ensures.1 in
    rw (p.1, p.2) (ends (value_at (nested_at c.args.levels)) Memory c.in_err-read_value.field-0.0
    c.items.items.items c.args.count c.items.counter c.items.reader
    (items_read (value_at (nested_at c.args.levels)) c.args.count c.args.reader.now)
    c.items-test.true c.in_err-read_value.ensures c.items.invariant)
