-- The first events were read.
use Rattle.trace_views.proofs.Fronts.{FrontRead}
use Rattle.trace_views.specs.Fronts.{events_front}
use Rattle.trace_views.proofs.front.read_events.Given as goal

abbrev pub invariant-events : goal.invariant-events
invariant-events l = FrontRead l.version l.count l.counter l.events l.lines
    (events_front l.version l.count l.initial.lines)
