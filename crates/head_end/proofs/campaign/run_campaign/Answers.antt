use Rattle.std.proofs.Common.{rules}
use Rattle.head_end.specs.Campaigns.{turns_for}
use Rattle.std.proofs.Common.{length}
use Rattle.head_end.proofs.CampaignLemmas.{one_password_in}
use Rattle.head_end.proofs.campaign.run_campaign.Goals as goal

pub returns-clause-tried : goal.returns-clause-tried
returns-clause-tried g c =
    one_password_in (turns_for (length c.args.jobs.now) c.args.workers) c.args.workers
    c.args.jobs.now c.args.password.now c.as_slice.result.now _
    c.run_watched_campaign-report.result (search rules) c.run_watched_campaign-report.ensures.tried
