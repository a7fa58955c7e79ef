-- The steps so far are a turn, and the buffers keep their lengths.
use Rattle.std.proofs.Common.{◌≡◌, length}
use Rattle.fleet_links.specs.Turns.{Turns}
use Rattle.fleet_links.specs.declared.link.Turn.TheVariants.{Again}
use Rattle.fleet_links.proofs.link.FleetLink.turn.Given as goal

abbrev pub invariant-steps : goal.invariant-steps
invariant-steps g l = record {
  number : l.self.number ≡ l.initial.self.number;
  input : length l.input ≡ length l.initial.input;
  frame : length l.frame ≡ length l.initial.frame;
  turns : Turns l.initial.self.number l.counter (length l.initial.frame)
      (record {
        meter = l.initial.meter;
        stream = g.S.Stream.state l.initial.self.stream;
        pending = l.initial.self.pending.items;
      }) Again
      (record {
        meter = l.meter;
        stream = g.S.Stream.state l.self.stream;
        pending = l.self.pending.items;
      });
}
