-- The first events were read.
use Rattle.trace_player.proofs.EventsRead.{EventsRead}
use Rattle.trace_player.specs.Traces.{events_at}
use Rattle.trace_player.proofs.reading.read_events.Given as goal

abbrev pub invariant-events : goal.invariant-events
invariant-events l = EventsRead l.version l.count l.counter l.events l.lines
    (events_at l.version l.count l.initial.lines)
