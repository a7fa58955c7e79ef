use Rattle.std.proofs.Common.{◌≡◌, true, []}
use Rattle.turn_lock.specs.Calls.{Watches}
use Rattle.turn_lock.specs.Seats.{view_of, known_of, carried_of}
use Rattle.turn_lock.proofs.steps.draw.Given as goal

abbrev pub invariant-loop : goal.invariant-loop
invariant-loop g l =
    (goal.iterator-loop g).can_next l.iterator' × (goal.iterator-loop g).is_finite l.iterator'
    × (l.place.table_id ≡ l.fn.place.table_id) × ((view_of l.place).is_port ≡ true)
    × (carried_of l.place ≡ []) × Watches g.T.Turned.legal (known_of l.fn.place) (known_of l.place)
