use Rattle.std.proofs.Common.{◌≡◌, ◌+◌, ◌-◌, ◌*◌}
use Rattle.wire_bytes.specs.Format.{items_read}
use Rattle.wire_bytes.proofs.Items.{with_front}
use Rattle.cosem_axdr.specs.Reading.{nested_at, value_at}
use Rattle.cosem_axdr.proofs.reading.+reading.Given as goal

abbrev pub decreases-read_value : goal.decreases-read_value
decreases-read_value l = 3 * l.levels + 1

abbrev pub decreases-read_counted : goal.decreases-read_counted
decreases-read_counted l = 3 * l.levels

abbrev pub decreases-read_items : goal.decreases-read_items
decreases-read_items l = 3 * l.levels + 2

abbrev pub invariant-read_items-items : goal.invariant-read_items-items
invariant-read_items-items l =
    with_front l.items.items (items_read (value_at (nested_at l.levels))
    (l.count - l.counter) l.reader)
    ≡ items_read (value_at (nested_at l.levels)) l.count l.initial.reader
