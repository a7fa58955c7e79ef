use Rattle.std.proofs.Common.{rules}
use Rattle.sqlite_ledger.proofs.ReadLemmas.{campaign_plain}
use Rattle.sqlite_ledger.proofs.reading.check_campaign.Goals as goal

pub returns-clause-unchanged : goal.returns-clause-unchanged
returns-clause-unchanged g c clean has =
    let plain = campaign_plain in
    let it = c.in_ok-rows.ensures.unchanged clean (rw has plain) in
    search rules
