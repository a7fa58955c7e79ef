use Rattle.std.proofs.Common.{rules}
use Rattle.fleet_meters.proofs.Seats.{seats_in, places_set}
use Rattle.fleet_meters.proofs.fleet.seat.Goals as goal

pub returns-in-Ok : goal.returns-in-Ok
returns-in-Ok c = (
  search rules,
  seats_in c.args.terms.now c.of_meter.result.now c.args.places.now.items c.args.number
      c.in-Some.at c.in-Some-get_mut.place.now c.open.new.self c.in-Ok.session c.of_meter.ensures
      (search rules) (search rules) c.in-Some-get_mut.ensures.value c.in-Ok.ensures,
  places_set c.args.places.now.items c.in-Some.at c.open.new.self,
)
