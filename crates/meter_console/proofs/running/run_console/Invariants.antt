-- The events of the lines so far were passed on, and at most one line was lost in each iteration.
use Rattle.std.proofs.Common.{◌<◌, ◌≤◌}
use Rattle.std.specs.Prelude.{vec_capacity}
use Rattle.meter_console.specs.Ends.{HandsAll}
use Rattle.meter_console.proofs.running.run_console.Given as goal

abbrev pub invariant-lines : goal.invariant-lines
invariant-lines g l = record {
  room : 8192 ≤ vec_capacity l.line;
  few : l.lost < l.number;
  hands : HandsAll (g.B.Read.remaining l.initial.input) (g.S.EventSink.taken l.initial.sink) l.lost
      (g.B.Read.remaining l.input) (g.S.EventSink.taken l.sink);
}
