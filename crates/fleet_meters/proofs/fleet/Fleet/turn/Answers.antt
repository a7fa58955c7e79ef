use Rattle.std.proofs.Common.{sym, subst, arith, length}
use Rattle.std.specs.Option.{IsSome}
use Rattle.std.proofs.lemmas.Bool.{false≢true}
use Rattle.fleet_meters.proofs.Fleets.{run_facts}
use Rattle.fleet_meters.proofs.Seats.{open_at_place, within_places}
use Rattle.fleet_meters.proofs.fleet.Fleet.turn.Goals as goal

pub unreachable-requires : goal.unreachable-requires
unreachable-requires g c =
    let within = within_places c.self.inside.places.items c.in-Some.client.now.place
    c.in-Some.client.now.number
    (c.self.invariant.is_open c.args.key c.in-Some.client.now (sym c.in-Some.ensures.value)) in
    false≢true (subst IsSome c.in_default-get_mut.is
    (c.get_mut-2.ensures.variant.1 (omega (
      arith,
      within,
      c.place-at.ensures,
      c.self.inside.places.ok.0,
    ))))

pub turn-requires-clause-is_open : goal.turn-requires-clause-is_open
turn-requires-clause-is_open g c =
    open_at_place c.self.inside.places.items c.place-at.result c.in-Some.client.now.place
    c.in-Some.client.now.number c.in-Some-get_mut.place.now c.place-at.ensures
    c.in-Some-get_mut.ensures.value
    (c.self.invariant.is_open c.args.key c.in-Some.client.now (sym c.in-Some.ensures.value))

pub invariant_of-self-2 : goal.invariant_of-self-2
invariant_of-self-2 g c =
    let facts = run_facts (length c.args.frame.now) c.self.inside.terms c.self.inside.places.items
    c.self.inside.clients c.args.key c.place-at.result c.in-Some.client.now c.turn.new.client
    c.in-Some-get_mut.place.now c.turn.new.self c.turn.result c.self.invariant
    (sym c.in-Some.ensures.value) c.place-at.ensures c.in-Some-get_mut.ensures.value
    c.turn.ensures in
    facts.0

pub returns : goal.returns
returns g c =
    let facts = run_facts (length c.args.frame.now) c.self.inside.terms c.self.inside.places.items
    c.self.inside.clients c.args.key c.place-at.result c.in-Some.client.now c.turn.new.client
    c.in-Some-get_mut.place.now c.turn.new.self c.turn.result c.self.invariant
    (sym c.in-Some.ensures.value) c.place-at.ensures c.in-Some-get_mut.ensures.value
    c.turn.ensures in
    rw (← c.self.view_is) facts.1
