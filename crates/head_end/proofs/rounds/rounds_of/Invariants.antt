use Rattle.head_end.proofs.RoundLemmas.{RoundsSoFar}
use Rattle.head_end.proofs.rounds.rounds_of.Given as goal

-- the rounds of the jobs so far
abbrev pub invariant-loop-place : goal.invariant-loop-place
invariant-loop-place l = RoundsSoFar l.jobs l.of_jobs l.count l.place
