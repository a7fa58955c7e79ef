-- The connections so far were served, and the buffers keep their lengths.
use Rattle.std.proofs.Common.{◌≡◌, Ok, length, take}
use Rattle.meter_fleet.specs.Rounds.{ServesMore}
use Rattle.meter_fleet.proofs.connections.serve_ready.Given as goal

abbrev pub invariant-keys : goal.invariant-keys
invariant-keys g l = record {
  input : length l.input ≡ length l.initial.input;
  frame : length l.frame ≡ length l.initial.frame;
  serves : ServesMore l.initial.fleet (take l.key-index l.ready) l.initial.next.items (Ok tt)
      l.next.items l.fleet;
}
