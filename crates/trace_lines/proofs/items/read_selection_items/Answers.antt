use Rattle.std.proofs.lemmas.Result.{err_from_is_err_and}
use Rattle.wire_bytes.specs.Format.{items_read}
use Rattle.wire_bytes.proofs.Items.{ends}
use Rattle.trace_lines.specs.Parts.{selection_part}
use Rattle.trace_words.specs.declared.fault.RowFault.TheVariants.{Memory}
use Rattle.trace_lines.proofs.items.read_selection_items.Goals as goal

pub returns-in_err-next_selection : goal.returns-in_err-next_selection
returns-in_err-next_selection c =
    let p = err_from_is_err_and c.from_residual.result c.from_residual.ensures.1 in
    rw (p.1, p.2) (ends selection_part.read Memory c.in_err-next_selection.field-0.0
    c.items.items.items c.args.count c.items.counter c.items.words
    (items_read selection_part.read c.args.count c.args.words.now) c.items-test.true
    c.in_err-next_selection.ensures c.items.invariant)
