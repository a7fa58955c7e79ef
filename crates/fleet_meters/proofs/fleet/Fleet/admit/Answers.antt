use Rattle.std.proofs.Common.{Err, refl, subst}
use Rattle.fleet_meters.specs.Fleets.{FleetState, AdmitsBy}
use Rattle.fleet_meters.proofs.Fleets.{admit_facts, refuse_facts, same_values}
use Rattle.fleet_meters.proofs.fleet.Fleet.admit.Goals as goal

pub invariant_of-self-in-Ok : goal.invariant_of-self-in-Ok
invariant_of-self-in-Ok g c =
    let facts = admit_facts c.self.inside.terms c.self.inside.places.items c.seat.new.places.items
    c.self.inside.clients c.reserve.new.self c.insert_reserved.new.self c.insert_reserved.result
    c.in-Ok.place c.in-Ok.session (g.S.Stream.state c.args.stream) c.new-client.result
    c.self.invariant c.reserve.ensures.rest_kept c.in-Ok.ensures.1 c.in-Ok.ensures.2
    c.insert_reserved.ensures.was_vacant c.insert_reserved.ensures.updates c.new-client.ensures in
    facts.0

pub returns-in-Err-clause-admits : goal.returns-in-Err-clause-admits
returns-in-Err-clause-admits g c = subst (λ (f : FleetState).
    AdmitsBy f c.args.number (g.S.Stream.state c.args.stream) (Err c.in-Err.refusal)
    (record {
      terms = c.self.inside.terms;
      places = c.seat.new.places.items;
      clients = c.reserve.new.self;
    })) c.self.view_is
    (refuse_facts
    (record {
      terms = c.self.inside.terms;
      places = c.self.inside.places.items;
      clients = c.self.inside.clients;
    })
    (record {
      terms = c.self.inside.terms;
      places = c.seat.new.places.items;
      clients = c.reserve.new.self;
    })
    c.args.number (g.S.Stream.state c.args.stream) c.in-Err.refusal c.in-Err.ensures refl
    (same_values c.self.inside.clients c.reserve.new.self c.reserve.ensures.rest_kept))
