use Rattle.std.proofs.Common.{refl, ap, ◌∙◌}
use Rattle.shared_meter.proofs.PendingLemmas.{none_left}
use Rattle.shared_meter.proofs.pending.PendingLines.take.Goals as goal

pub returns-clause-preserved : goal.returns-clause-preserved
returns-clause-preserved c = rw (← c.self.view_is) (λ lines switches was. none_left _ _ lines
    switches (ap (λ v. v.items) c.replace-text.ensures.after ∙ c.clear.ensures.items) refl refl refl
    was)
