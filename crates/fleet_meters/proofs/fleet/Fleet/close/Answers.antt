use Rattle.std.proofs.Common.{sym}
use Rattle.fleet_meters.proofs.Fleets.{release_facts}
use Rattle.fleet_meters.proofs.fleet.Fleet.close.Goals as goal

pub invariant_of-self : goal.invariant_of-self
invariant_of-self g c =
    let facts = release_facts c.self.inside.terms c.self.inside.places.items
    c.release.new.places.items c.self.inside.clients c.try_remove.new.self c.args.key c.place.result
    c.number.result c.in-Some.client c.self.invariant (sym c.in-Some.ensures.value) c.place.ensures
    c.number.ensures c.in-Some.ensures.updates c.release.ensures.others_unchanged
    c.release.ensures.frees in
    facts.0
