use Rattle.std.proofs.Common.{rules}
use Rattle.lane_sampler.specs.Runs.{IsRun}
use Rattle.lane_sampler.proofs.RunLemmas.{run_passes, all_pass}
use Rattle.lane_sampler.proofs.runs.run_from.Goals as goal

-- the result is the run that ends where `end_of_run` says
run : (c : goal.After-saturating_sub) → IsRun c.args.words.now c.args.len c.args.at
    c.saturating_sub.result
run c = search rules

pub returns-clause-passing : goal.returns-clause-passing
returns-clause-passing c test values mask long =
    run_passes _ _ _ _ c.requires (run c) test values mask long

pub returns-clause-all_pass : goal.returns-clause-all_pass
returns-clause-all_pass c test values mask = all_pass _ _ _ _ c.requires (run c) test values mask
