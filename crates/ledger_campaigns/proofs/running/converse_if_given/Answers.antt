use Rattle.std.proofs.Common.{inr}
use Rattle.ledger_campaigns.proofs.RunningLemmas.{given_kept, may_still}
use Rattle.ledger_campaigns.proofs.running.converse_if_given.Goals as goal

pub returns-clause-log : goal.returns-clause-log
returns-clause-log g c = inr (
  may_still c.args.task.now.job.now.verb _ _
      (given_kept c.args.task.now.place _ _ c.report_outcome-stored.ensures.seen)
      c.in-Some.ensures.given,
  c.report_outcome-stored.ensures.asked_to_store,
  c.in_ok-outcome.ensures.log,
)
