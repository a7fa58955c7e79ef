use Rattle.fleet_meters.proofs.Fleets.{give_by}
use Rattle.fleet_meters.proofs.fleet.Fleet.give.Goals as goal

pub invariant_of-self : goal.invariant_of-self
invariant_of-self g c =
    let facts = give_by c.self.inside.terms c.self.inside.places.items c.give.new.places.items
    c.self.inside.clients c.args.number c.args.event c.give.result c.self.invariant
    c.give.ensures in
    facts.0

pub returns : goal.returns
returns g c =
    let facts = give_by c.self.inside.terms c.self.inside.places.items c.give.new.places.items
    c.self.inside.clients c.args.number c.args.event c.give.result c.self.invariant
    c.give.ensures in
    rw (← c.self.view_is) facts.1
