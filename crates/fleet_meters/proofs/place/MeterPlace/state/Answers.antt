use Rattle.std.proofs.Common.{rules}
use Rattle.fleet_meters.proofs.Seats.{state_there}
use Rattle.fleet_meters.proofs.place.MeterPlace.state.Goals as goal

pub returns-in-Some : goal.returns-in-Some
returns-in-Some c = state_there c.args.terms.now c.args.self.now c.deref.result.now
    c.state.result (search rules) c.state.ensures
