use Rattle.std.proofs.Common.{subst, sym, List, ℕ}
use Rattle.campaign_board.specs.Updates.{AreDueAt}
use Rattle.campaign_board.proofs.ClearLemmas.{all_due}
use Rattle.campaign_board.proofs.places.retain_due.Goals as goal

pub returns : goal.returns
returns c = subst (λ (ms : List ℕ). AreDueAt c.args.places.now ms) (sym c.truncate.ensures.items)
    (all_due c.args.places.now c.marks.marks.items c.marks.kept
    (λ i within below. c.marks.invariant.due i within))
