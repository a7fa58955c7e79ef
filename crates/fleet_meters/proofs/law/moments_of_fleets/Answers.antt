use Rattle.fleet_meters.proofs.Moments.{holds_always, stay_unaddressed}
use Rattle.fleet_meters.proofs.law.moments_of_fleets.Goals as goal

pub returns-clause-holds : goal.returns-clause-holds
returns-clause-holds c = holds_always

pub returns-clause-unaddressed : goal.returns-clause-unaddressed
returns-clause-unaddressed c = stay_unaddressed
