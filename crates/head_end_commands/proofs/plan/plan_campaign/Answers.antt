use Rattle.std.proofs.Common.{inl}
use Rattle.std.proofs.lemmas.Result.{err_from_is_err_and}
use Rattle.clap.specs.Matches.{found_of}
use Rattle.head_end_commands.proofs.Plans.{campaign_of_jobs, campaign_of_list}
use Rattle.head_end_commands.proofs.plan.plan_campaign.Goals as goal

pub returns-in_err-common-clause-err : goal.returns-in_err-common-clause-err
returns-in_err-common-clause-err g c =
    let p = err_from_is_err_and c.from_residual.result c.from_residual.ensures.1 in
    rw (p.1, p.2) (inl c.in_err-common.ensures.err)

pub returns-in_err-jobs-clause-err : goal.returns-in_err-jobs-clause-err
returns-in_err-jobs-clause-err g c =
    let p = err_from_is_err_and c.from_residual-in_err-jobs.result
    c.from_residual-in_err-jobs.ensures.1 in
    rw (p.1, p.2)
    (campaign_of_list (found_of c.args.matches.now) c.in_ok-common.common
    (g.I.Read.remaining c.args.input) _ c.in_ok-common.ensures.common c.in_err-jobs.ensures.kind
    c.in_err-jobs.ensures.err)

pub returns-clause-err : goal.returns-clause-err
returns-clause-err g c =
    campaign_of_jobs (found_of c.args.matches.now) c.in_ok-common.common
    (g.I.Read.remaining c.args.input) c.in_ok-jobs.jobs c.plan_with-planned.result
    c.in_ok-common.ensures.common c.in_ok-jobs.ensures.jobs c.plan_with-planned.ensures.err
