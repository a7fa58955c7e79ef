-- The idle ones so far were appended.
use Rattle.std.proofs.Common.{◌≡◌, ◌++◌, take}
use Rattle.fleet_sockets.specs.Activity.{idle_keys}
use Rattle.fleet_sockets.proofs.activity.append_idle.Given as goal

abbrev pub invariant-moments : goal.invariant-moments
invariant-moments l =
    l.idle.items ≡ l.initial.idle.items ++ idle_keys l.limit l.now (take l.key l.moments)
