use Rattle.std.proofs.Common.{◌≡◌, ◌-◌}
use Rattle.wire_bytes.specs.Format.{items_read}
use Rattle.wire_bytes.proofs.Items.{with_front}
use Rattle.trace_lines.specs.Parts.{selection_part}
use Rattle.trace_lines.proofs.items.read_selection_items.Given as goal

abbrev pub invariant-items : goal.invariant-items
invariant-items l = with_front l.items.items (items_read selection_part.read
    (l.count - l.counter) l.words) ≡ items_read selection_part.read l.count l.initial.words
