use Rattle.std.proofs.Common.{rules}
use Rattle.fleet_meters.proofs.Seats.{gives_in, places_set}
use Rattle.fleet_meters.proofs.fleet.give.Goals as goal

pub returns-in-Ok : goal.returns-in-Ok
returns-in-Ok c = (
  c.in-Some.at,
  search rules,
  gives_in c.args.terms.now c.of_meter.result.now c.args.places.now.items c.args.number
      c.in-Some.at c.in-Some-get_mut.place.now c.give.new.self c.args.event c.in-Ok.reply
      c.of_meter.ensures (search rules) (search rules) c.in-Some-get_mut.ensures.value
      c.in-Ok.ensures.gives,
  places_set c.args.places.now.items c.in-Some.at c.give.new.self,
)
