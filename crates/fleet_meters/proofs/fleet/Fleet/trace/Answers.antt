use Rattle.std.proofs.Common.{rules, arith}
use Rattle.fleet_meters.proofs.Seats.{trace_in}
use Rattle.fleet_meters.proofs.fleet.Fleet.trace.Goals as goal

pub returns-in_default : goal.returns-in_default
returns-in_default g c = rw (← c.self.view_is) (λ place same.
    let least = c.in_default.ensures.none place same in
    omega (arith, least, c.len.ensures))

pub returns-in-Ok : goal.returns-in-Ok
returns-in-Ok g c = rw (← c.self.view_is) (
  c.in-Some.at,
  c.in-Some.ensures.place.0,
  trace_in c.self.inside.terms c.of_meter.result.now c.self.inside.places.items c.args.number
      c.in-Some.at c.index.result.now c.in-Ok.text c.of_meter.ensures c.in-Some.ensures.place.0
      (omega (arith, c.in-Some.ensures.place.1, c.len.ensures)) (search rules) c.in-Ok.ensures,
)
