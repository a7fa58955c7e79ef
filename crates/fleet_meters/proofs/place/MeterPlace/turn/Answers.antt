use Rattle.std.proofs.Common.{rules}
use Rattle.fleet_meters.proofs.Seats.{turns_at}
use Rattle.fleet_meters.proofs.place.MeterPlace.turn.Goals as goal

pub returns : goal.returns
returns g c = turns_at _ _ _ _ _ _ _ (search rules) c.turn.ensures
