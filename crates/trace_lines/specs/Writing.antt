-- The words that are written for an event.
use Rattle.relay_events.specs.declared.event.Event.{Event}
use Rattle.trace_words.specs.Rows.{Row}
use Rattle.trace_lines.specs.Events.{event_format}

-- the line of an event
unfoldable pub event_row : Event → Row
event_row event = event_format.text event
