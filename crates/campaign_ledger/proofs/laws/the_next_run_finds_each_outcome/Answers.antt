use Rattle.campaign_ledger.proofs.laws.the_next_run_finds_each_outcome.Goals as goal

pub returns : goal.returns
returns g c start now permits grants honest place outcome left given kept leaves =
    g.met.B.Book.stays_kept now.book place outcome left (grants.durable honest place given) kept
    leaves
