-- The first events were applied.
use Rattle.std.proofs.Common.{take}
use Rattle.trace_player.proofs.Taking.{Took}
use Rattle.trace_player.proofs.resuming.apply_events.Given as goal

abbrev pub invariant-events : goal.invariant-events
invariant-events l = Took l.initial.core l.core (take l.event-index l.events)
