use Rattle.std.proofs.Common.{refl, ◌∙◌}
use Rattle.shared_meter.proofs.PendingLemmas.{none_pending}
use Rattle.shared_meter.proofs.pending.PendingLines.new.Goals as goal

pub returns : goal.returns
returns c = λ whole. none_pending _ (c.in_ok-reserve.ensures.items ∙ c.new-text.ensures.items) refl
    refl refl
