-- The places so far have no meter.
use Rattle.std.proofs.Common.{◌≡◌, None, All, length}
use Rattle.fleet_meters.proofs.fleet.new_places.Given as goal

abbrev pub invariant-places : goal.invariant-places
invariant-places l = record {
  count : length l.places.items ≡ l.counter;
  empty : All (λ place. place ≡ None) l.places.items;
}
