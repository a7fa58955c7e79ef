-- The events before the index are in their ranges.
use Rattle.std.proofs.Common.{All, take}
use Rattle.trace_lines.specs.Traced.{FitsLine, IsTraced}
use Rattle.trace_player.proofs.ranges.events_are_traced.Given as goal

abbrev pub invariant-events : goal.invariant-events
invariant-events l = All (λ event. FitsLine event → IsTraced event) (take l.event-index l.events)
