use Rattle.std.proofs.Common.{inl}
use Rattle.clap.specs.Matches.{found_of}
use Rattle.head_end_commands.proofs.Plans.{plan_of_jobs}
use Rattle.head_end_commands.proofs.plan.plan_jobs.Goals as goal

pub returns-in-Ok-clause-err : goal.returns-in-Ok-clause-err
returns-in-Ok-clause-err c =
    plan_of_jobs (found_of c.args.matches.now) c.in-Ok.common c.plan_with-plan.result
    c.in-Ok.ensures.common c.plan_with-plan.ensures.err

pub returns-in-Err-clause-err : goal.returns-in-Err-clause-err
returns-in-Err-clause-err c = inl c.in-Err.ensures.err
