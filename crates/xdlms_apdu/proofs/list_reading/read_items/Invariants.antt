use Rattle.std.proofs.Common.{◌≡◌, ◌-◌}
use Rattle.wire_bytes.specs.Format.{items_read}
use Rattle.wire_bytes.proofs.Items.{with_front}
use Rattle.xdlms_apdu.proofs.list_reading.read_items.Given as goal

abbrev pub invariant-items : goal.invariant-items
invariant-items g l = with_front l.items.items (items_read g.T.ListItem.part.read
    (l.count - l.counter) l.reader) ≡ items_read g.T.ListItem.part.read l.count l.initial.reader
