use Rattle.std.proofs.Common.{◌≡◌, ℕ, ◌+◌, ◌-◌, ◌<◌, ◌≤◌, length, get_or}
use Rattle.relay_core.proofs.stretches.equal_run.Given as goal

abbrev pub invariant-values : goal.invariant-values
invariant-values l = record {
  from : l.at ≤ l.end;
  within : l.end ≤ length l.values;
  equal : (k : ℕ) → l.at + k < l.end → get_or l.values (l.at + k) 0 ≡ l.threshold;
}

abbrev pub decreases-values : goal.decreases-values
decreases-values l = length l.values - l.end
