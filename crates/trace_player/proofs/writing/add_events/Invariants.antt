-- The lines of the first events were written.
use Rattle.std.proofs.Common.{◌++◌, map}
use Rattle.trace_lines.specs.Writing.{event_row}
use Rattle.trace_player.proofs.EventsLeft.{EventsLeft}
use Rattle.trace_player.proofs.writing.add_events.Given as goal
use Rattle.text_lines.specs.Lines.{rows_text}

abbrev pub invariant-events : goal.invariant-events
invariant-events l = EventsLeft l.events l.event-index l.out.items (l.initial.out.items
    ++ rows_text (map event_row l.events))
