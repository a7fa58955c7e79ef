use Rattle.meter_fleet.proofs.Lawful.{runs_lawfully, loses_nothing}
use Rattle.meter_fleet.proofs.law.lawful_rounds.Goals as goal

pub returns-clause-runs : goal.returns-clause-runs
returns-clause-runs c = runs_lawfully

pub returns-clause-between : goal.returns-clause-between
returns-clause-between c = loses_nothing
