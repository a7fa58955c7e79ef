use Rattle.std.proofs.Common.{subst, sym}
use Rattle.shared_meter.specs.Pending.{IsTextOfLine}
use Rattle.shared_meter.proofs.pending.PendingLines.note.Goals as goal

pub returns-in-Ok : goal.returns-in-Ok
returns-in-Ok c = rw (c.in-Ok.is) (λ line written.
    c.add.ensures line (subst (IsTextOfLine line) (sym c.as_slice.ensures.value) written))
