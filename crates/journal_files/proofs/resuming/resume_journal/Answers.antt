use Rattle.journal_files.proofs.RenewalLemmas.{recovered_any}
use Rattle.journal_files.proofs.resuming.resume_journal.Goals as goal

pub returns-in_ok-made-in-Ok-clause-any_moment : goal.returns-in_ok-made-in-Ok-clause-any_moment
returns-in_ok-made-in-Ok-clause-any_moment g c acts =
    recovered_any g.F.DurableFile.model c.args.file.now _ _ c.read.ensures.call.time
    c.read.ensures.crash c.read.ensures.unchanged (c.recover.ensures.any_moment acts)

pub returns-in_err-made-in-Ok-clause-any_moment : goal.returns-in_err-made-in-Ok-clause-any_moment
returns-in_err-made-in-Ok-clause-any_moment g c acts =
    recovered_any g.F.DurableFile.model c.args.file.now _ _ c.read.ensures.call.time
    c.read.ensures.crash c.read.ensures.unchanged (c.recover.ensures.any_moment acts)

pub returns-in-Err-clause-any_moment : goal.returns-in-Err-clause-any_moment
returns-in-Err-clause-any_moment g c acts =
    recovered_any g.F.DurableFile.model c.args.file.now _ _ c.read.ensures.call.time
    c.read.ensures.crash c.read.ensures.unchanged (c.recover.ensures.any_moment acts)
