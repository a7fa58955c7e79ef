use Rattle.std.proofs.Common.{◌≡◌, ◌≤◌, take}
use Rattle.head_end.specs.Rounds.{count_at}
use Rattle.head_end.proofs.rounds.count_at.Given as goal

-- the jobs so far with this address
abbrev pub invariant-jobs : goal.invariant-jobs
invariant-jobs l = (l.count ≡ count_at l.address (take l.job-index l.jobs))
    × (l.count ≤ l.job-index)
