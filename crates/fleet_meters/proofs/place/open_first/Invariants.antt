-- The meter is unchanged, and the sessions so far are open.
use Rattle.std.proofs.Common.{◌≡◌, ◌≢◌, ◌<◌, ℕ, None}
use Rattle.embedded_meter.specs.MeterStates.{dialogue_at}
use Rattle.fleet_meters.proofs.place.open_first.Given as goal

abbrev pub invariant-numbers : goal.invariant-numbers
invariant-numbers l = record {
  same : l.meter ≡ l.initial.meter;
  taken : (n : ℕ) → n < l.number → dialogue_at l.meter n ≢ None;
}
