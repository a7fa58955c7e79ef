-- The events so far that must be reported are not held back any more, and the other delays are
-- unchanged.
use Rattle.std.proofs.Common.{◌≡◌, ◌<◌, ◌≤◌, ℕ, get_or, length}
use Rattle.fleet_faults.specs.Delays.{delay_after_search}
use Rattle.fleet_faults.specs.declared.delays.Delay.TheVariants.{Prompt}
use Rattle.fleet_faults.proofs.delays.release_due.Given as goal

abbrev pub invariant-delays : goal.invariant-delays
invariant-delays l = record {
  done : (k : ℕ) → k < l.delay-index → get_or l.delays k Prompt
      ≡ delay_after_search l.now (get_or l.initial.delays k Prompt);
  rest : (k : ℕ) → l.delay-index ≤ k → get_or l.delays k Prompt ≡ get_or l.initial.delays k Prompt;
  count : length l.delays ≡ length l.initial.delays;
}
