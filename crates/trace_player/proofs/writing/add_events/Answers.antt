use Rattle.std.proofs.Common.{◌++◌, map}
use Rattle.trace_lines.specs.Writing.{event_row}
use Rattle.trace_player.proofs.EventsLeft.{event_more, events_written}
use Rattle.trace_player.proofs.writing.add_events.Goals as goal
use Rattle.text_lines.specs.Lines.{rows_text}

pub events-preserved : goal.events-preserved
events-preserved c =
    event_more c.args.events.now c.events.event-index c.event-item.result c.events.out.items
    c.add_event.new.out.items (c.args.out.now.items
    ++ rows_text (map event_row c.args.events.now))
    c.events-test.true c.event-item.is c.in_ok-add_event.ensures c.events.invariant

pub returns : goal.returns
returns c = events_written c.args.events.now c.events.event-index c.events.out.items
    (c.args.out.now.items ++ rows_text (map event_row c.args.events.now)) c.events-test.false
    c.events.invariant
