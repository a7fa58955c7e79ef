use Rattle.std.proofs.Common.{List, ℕ, take, ap, ◌∙◌}
use Rattle.head_end.specs.Rounds.{count_at}
use Rattle.head_end.proofs.RoundLemmas.{rounds_more}
use Rattle.head_end.proofs.rounds.rounds_of.Goals as goal

pub loop-place-preserved : goal.loop-place-preserved
loop-place-preserved c =
    rounds_more c.args.jobs.now c.loop-place.of_jobs c.push.new.self c.loop-place.count
    c.max-count.result c.loop-place.place c.count_at-round.result c.index-jobs-place.result
    c.loop-place.invariant c.loop-place-test.true
    (c.count_at-round.ensures.count ∙ ap (λ (address : List ℕ). count_at address
    (take c.loop-place.place c.args.jobs.now)) c.as_slice.ensures)
    c.max-count.ensures c.in-Ok.ensures.ok
