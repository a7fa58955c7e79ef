use Rattle.std.proofs.Common.{◌≡◌, ◌*◌, ◌<◌, ◌≤◌, ℕ, false}
use Rattle.cosem_datetime.specs.Matching.{matches}
use Rattle.cosem_datetime.proofs.entry.EntryPattern.matches_within.Given as goal

abbrev pub invariant-loop-day : goal.invariant-loop-day
invariant-loop-day l = (n : ℕ) → l.first ≤ n → n < 86400 * l.day → n ≤ l.last
    → matches l.self n ≡ false
