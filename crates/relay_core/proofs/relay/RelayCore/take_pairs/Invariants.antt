use Rattle.std.proofs.Common.{length, ◌-◌, ◌*◌, ◌≤◌, take}
use Rattle.lane_sampler.specs.Scans.{IsRightScan}
use Rattle.relay_core.specs.Sampling.{no_firings, pairs}
use Rattle.relay_core.specs.Taking.{Takes, AreAtMost}
use Rattle.relay_core.proofs.relay.RelayCore.take_pairs.Given as goal

abbrev pub invariant-samples : goal.invariant-samples
invariant-samples l = record {
  takes : Takes l.initial.self l.self no_firings l.firings
      (pairs (take l.at l.values) (take l.at l.others));
  within : l.at ≤ length l.values;
  right : IsRightScan l.values l.scan;
  other_right : IsRightScan l.others l.other_scan;
  counted : AreAtMost (2 * l.at) l.firings;
}

abbrev pub decreases-samples : goal.decreases-samples
decreases-samples l = length l.values - l.at
