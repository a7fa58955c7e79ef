use Rattle.campaign_board.proofs.RunLemmas.{safe_run}
use Rattle.campaign_board.proofs.laws.campaigns_are_safe_runs.Goals as goal

pub returns : goal.returns
returns g c = safe_run g.B.Book.is_honest g.B.Book.is_marked g.B.Book.may_leave
    g.met.B.Book.stays_marked
