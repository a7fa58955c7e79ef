use Rattle.ledger_campaigns.proofs.CampaignLemmas.{closes}
use Rattle.ledger_campaigns.proofs.sharing.close.Goals as goal

pub returns-in-Ok : goal.returns-in-Ok
returns-in-Ok g c = closes g.B.Book.is_honest g.B.Book.is_marked g.B.Book.keeps c.args.port.known
    c.in-Ok.desk c.into_ledger.result c.into_ledger.ensures c.in-Ok.ensures.ok
