use Rattle.std.proofs.Common.{rules}
use Rattle.fleet_meters.proofs.Seats.{seats_by}
use Rattle.fleet_meters.proofs.place.MeterPlace.open.Goals as goal

pub returns-in-Some : goal.returns-in-Some
returns-in-Some c = seats_by _ _ _ _ c.open_first.result (search rules) c.open_first.ensures
