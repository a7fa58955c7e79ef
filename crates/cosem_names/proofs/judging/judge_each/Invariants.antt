use Rattle.cosem_names.specs.Judging.{IsReader}
use Rattle.cosem_names.proofs.Judged.{HasJudged}
use Rattle.cosem_names.proofs.judging.judge_each.Given as goal

abbrev pub invariant-loop-item : goal.invariant-loop-item
invariant-loop-item g l = (of_item : _) → IsReader g.F.Fn l.read of_item
    → HasJudged of_item l.items l.item-index l.unmatched l.faulty
