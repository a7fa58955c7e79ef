use Rattle.std.proofs.Common.{rules}
use Rattle.sqlite_ledger.proofs.ReadLemmas.{begun_times_plain}
use Rattle.sqlite_ledger.proofs.reading.read_begun_times.Goals as goal

pub returns-clause-unchanged : goal.returns-clause-unchanged
returns-clause-unchanged g c clean has =
    let plain = begun_times_plain in
    let it = c.in_ok-rows.ensures.unchanged clean (rw has plain) in
    search rules
