use Rattle.head_end.proofs.CampaignLemmas.{ids_more}
use Rattle.head_end.proofs.campaign.blank_lines.Goals as goal

pub jobs-preserved : goal.jobs-preserved
jobs-preserved c =
    ids_more c.args.jobs.now c.jobs.job-index c.job-item.result c.jobs.lines.items
    c.push.new.self.items _ c.jobs-test.true c.job-item.is c.in_ok-id.ensures c.jobs.invariant
    c.in_ok-push.ensures.items
