use Rattle.std.proofs.Common.{◌≡◌, ◌≤◌, length, take, vec_len, vec_capacity}
use Rattle.relay_core.specs.Runs.{Runs}
use Rattle.relay_core.proofs.running.run.Given as goal

abbrev pub invariant-events : goal.invariant-events
invariant-events l = record {
  ran : Runs l.initial.core l.core (take l.event-index l.events) l.lines.items;
  counted : vec_len l.lines ≡ l.event-index;
  room : length l.events ≤ vec_capacity l.lines;
}
