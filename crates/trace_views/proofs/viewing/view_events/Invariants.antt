-- The first events were applied, and the lines that the view shows of them written.
use Rattle.std.proofs.Common.{◌≡◌, take}
use Rattle.trace_views.proofs.Steps.{HasShown}
use Rattle.trace_views.proofs.viewing.view_events.Given as goal

abbrev pub invariant-events : goal.invariant-events
invariant-events l = (l.number ≡ l.event-index)
    × HasShown l.view l.initial.core l.core (take l.event-index l.events) l.out.items
