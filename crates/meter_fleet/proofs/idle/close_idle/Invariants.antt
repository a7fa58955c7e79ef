-- The connections so far were closed.
use Rattle.std.proofs.Common.{take}
use Rattle.meter_fleet.specs.Rounds.{ClosesKeys}
use Rattle.meter_fleet.proofs.idle.close_idle.Given as goal

abbrev pub invariant-keys : goal.invariant-keys
invariant-keys g l = ClosesKeys l.initial.fleet (take l.key-index l.keys) l.fleet
