use Rattle.std.proofs.Common.{◌-◌, ◌≤◌}
use Rattle.lane_sampler.specs.Runs.{AreOnes}
use Rattle.lane_sampler.proofs.runs.end_of_run.Given as goal

abbrev pub invariant-loop-end : goal.invariant-loop-end
invariant-loop-end l = (l.at ≤ l.end) × AreOnes l.words l.at (l.end - l.at)

abbrev pub decreases-loop-end : goal.decreases-loop-end
decreases-loop-end l = l.len - l.end
