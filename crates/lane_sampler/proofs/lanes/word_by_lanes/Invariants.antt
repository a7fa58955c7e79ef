use Rattle.std.proofs.Common.{length, ◌-◌, ◌≤◌}
use Rattle.lane_sampler.proofs.MaskLemmas.{SoFar}
use Rattle.lane_sampler.proofs.lanes.word_by_lanes.Given as goal

abbrev pub invariant-loop-at : goal.invariant-loop-at
invariant-loop-at l = (l.at ≤ length l.values) × SoFar l.word l.values l.threshold l.at

abbrev pub decreases-loop-at : goal.decreases-loop-at
decreases-loop-at l = length l.values - l.at
