-- The first events were read and applied, and their lines written.
use Rattle.trace_player.proofs.EventsPlayed.{Underway}
use Rattle.trace_player.proofs.playing.play_events.Given as goal

abbrev pub invariant-events : goal.invariant-events
invariant-events l = Underway l.version l.count l.i l.initial.lines l.lines l.initial.core
    l.core l.out.items
