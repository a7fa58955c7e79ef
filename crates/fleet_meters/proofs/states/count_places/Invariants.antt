-- The meters in the state so far were counted.
use Rattle.std.proofs.Common.{◌≤◌, length}
use Rattle.fleet_meters.proofs.Counting.{CountsFirst}
use Rattle.fleet_meters.proofs.states.count_places.Given as goal

abbrev pub invariant-places : goal.invariant-places
invariant-places l = record {
  within : l.count ≤ l.at;
  below : l.at ≤ length l.places;
  counts : CountsFirst l.terms l.places l.state l.at l.count;
}
