-- The idle ones so far were moment_after_search, and the others are unchanged.
use Rattle.std.proofs.Common.{◌≡◌, ◌<◌, ◌≤◌, ℕ, get_or, length}
use Rattle.fleet_sockets.specs.Activity.{moment_after_search}
use Rattle.fleet_sockets.proofs.activity.renew_idle.Given as goal

abbrev pub invariant-moments : goal.invariant-moments
invariant-moments l = record {
  done : (k : ℕ) → k < l.moment-index
      → get_or l.moments k 0 ≡ moment_after_search l.limit l.now (get_or l.initial.moments k 0);
  rest : (k : ℕ) → l.moment-index ≤ k → get_or l.moments k 0 ≡ get_or l.initial.moments k 0;
  count : length l.moments ≡ length l.initial.moments;
}
