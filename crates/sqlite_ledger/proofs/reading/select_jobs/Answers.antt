use Rattle.std.proofs.Common.{rules}
use Rattle.sqlite_ledger.proofs.ReadLemmas.{jobs_plain}
use Rattle.sqlite_ledger.proofs.reading.select_jobs.Goals as goal

pub returns-clause-unchanged : goal.returns-clause-unchanged
returns-clause-unchanged g c clean has =
    let plain = jobs_plain in
    let it = c.select.ensures.unchanged clean (rw has plain) in
    search rules
