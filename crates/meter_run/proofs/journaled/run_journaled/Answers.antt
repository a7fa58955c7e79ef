use Rattle.meter_run.proofs.journaled.run_journaled.Goals as goal

pub returns-in-Ok-clause-runs : goal.returns-in-Ok-clause-runs
returns-in-Ok-clause-runs g c =
    c.run_in_lock.ensures.runs c.args.recorder c.in-Ok.ensures.known
