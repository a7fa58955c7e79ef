use Rattle.campaign_ledger.proofs.GrantLemmas.{both, safe_run}
use Rattle.campaign_ledger.proofs.laws.grants_add_up.Goals as goal

pub returns-clause-total : goal.returns-clause-total
returns-clause-total g c = both g.B.Book.is_honest g.B.Book.is_marked

pub returns-clause-runs : goal.returns-clause-runs
returns-clause-runs g c = safe_run g.B.Book.is_honest g.B.Book.is_marked g.B.Book.may_leave
    g.met.B.Book.stays_marked
