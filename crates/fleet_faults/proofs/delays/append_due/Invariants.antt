-- The keys so far whose events must be reported were appended.
use Rattle.std.proofs.Common.{◌≡◌, ◌++◌, take}
use Rattle.fleet_faults.specs.Delays.{due_keys}
use Rattle.fleet_faults.proofs.delays.append_due.Given as goal

abbrev pub invariant-delays : goal.invariant-delays
invariant-delays l =
    l.ready.items ≡ l.initial.ready.items ++ due_keys l.now (take l.key l.delays)
