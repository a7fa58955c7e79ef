use Rattle.std.proofs.Common.{rules, refl}
use Rattle.shared_meter.proofs.PendingLemmas.{noted}
use Rattle.shared_meter.proofs.pending.PendingLines.add.Goals as goal

pub returns-in-Ok : goal.returns-in-Ok
returns-in-Ok c = rw (← c.self.view_is) (λ line written lines switches pends.
    noted _ _ _ line _ lines switches written c.in-Ok.ensures.items refl (search rules)
    (search rules) refl pends)
