use Rattle.journal_files.proofs.RenewalLemmas.{read_stays, renewed_any}
use Rattle.journal_files.proofs.renewing.renew_long_journal.Goals as goal

pub returns-in_err-bytes-clause-any_moment : goal.returns-in_err-bytes-clause-any_moment
returns-in_err-bytes-clause-any_moment g c acts =
    read_stays g.P.DurableFile.model c.args.place.now _ _ c.read.ensures.call.time
    c.read.ensures.crash

pub returns-clause-any_moment : goal.returns-clause-any_moment
returns-clause-any_moment g c acts =
    renewed_any g.P.DurableFile.model c.args.depth c.args.place.now _ _ c.read.ensures.call.time
    c.read.ensures.crash c.read.ensures.unchanged (c.renew_journal.ensures.any_moment acts)
