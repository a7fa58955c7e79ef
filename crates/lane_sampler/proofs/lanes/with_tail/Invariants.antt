use Rattle.lane_sampler.proofs.MaskLemmas.{SoFar}
use Rattle.lane_sampler.proofs.lanes.with_tail.Given as goal

abbrev pub invariant-loop-at : goal.invariant-loop-at
invariant-loop-at l = SoFar l.word l.values l.threshold l.at
