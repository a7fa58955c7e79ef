-- Keys were appended so far.
use Rattle.std.proofs.Common.{◌≡◌, ◌++◌, ℕ, List}
use Rattle.fleet_sockets.proofs.sockets.FleetSockets.take_events.Given as goal

abbrev pub invariant-events : goal.invariant-events
invariant-events g l = (keys : List ℕ) × (l.ready.items ≡ l.initial.ready.items ++ keys)
