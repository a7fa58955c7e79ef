-- A trace as text: an opening, the number of its events, and the line of each.
--     events_at         a number of events, read from their lines
--     trace_of_opening  a trace of an opening and a number of events, after which nothing is left
--     trace_after       a trace of an opening and of the events after the line of their number
--     trace_of          the trace of a text, or its fault
--     trace_text        the text that is written for a trace, in version 2
use Rattle.std.specs.Prelude.{ℕ, zero, suc, nat_lt, if◌then◌else◌, codes, List, [], ◌∷◌, ◌++◌}
use Rattle.std.specs.Prelude.{length, map, Option, Result, Ok, Err}
use Rattle.wire_bytes.specs.Outcome.{◌>>=◌}
use Rattle.relay_events.specs.declared.event.Event.{Event}
use Rattle.relay_core.specs.declared.opening.Opening.{Opening}
use Rattle.relay_recorder.specs.declared.trace.Trace.{Trace}
use Rattle.trace_lines.specs.Events.{event_of}
use Rattle.trace_lines.specs.OpenCount.{count_at, counted_events}
use Rattle.trace_openings.specs.OpeningReading.{opening_from}
use Rattle.trace_words.specs.Labels.{number_row}
use Rattle.trace_openings.specs.OpeningRows.{opening_rows}
use Rattle.trace_words.specs.Places.{Place, ReadLines, line_as, ended_at, place_of}
use Rattle.trace_words.specs.Rows.{Row}
use Rattle.trace_lines.specs.Writing.{event_row}
use Rattle.trace_words.specs.declared.fault.TraceFault.{TraceFault}
use Rattle.trace_words.specs.declared.fault.TraceFault.TheVariants.{TooLong}
use Rattle.trace_words.specs.declared.version.Version.{Version}
use Rattle.text_lines.specs.Lines.{rows_text}

-- the maximum length of a text, in bytes
abbrev pub max_bytes : ℕ
max_bytes = 33554432

-- the events of the next lines, this number of them
unfoldable pub events_at : Version → ℕ → Place → ReadLines (List Event)
events_at version zero place = Ok ([], place)
events_at version (suc count) place = do
  event ← line_as (event_of version) place
  others ← events_at version count event.1
  Ok (event.0 ∷ others.0, others.1)

-- a trace of this opening and of this number of events from here on, after which nothing is left
abbrev pub trace_of_opening : Version → ℕ → Opening → Place → Result Trace TraceFault
trace_of_opening version count opening place = do
  events ← events_at version count place
  ended_at events.1 (record { opening = opening; events = events.0 })

-- a trace of this opening and of the events after the line of their number, which states a number
-- or none
abbrev pub trace_after : Version → Option ℕ → Opening → Place → Result Trace TraceFault
trace_after version counted opening place =
    trace_of_opening version (counted_events counted place).0 opening
    (counted_events counted place).1

-- a trace: the opening, the number of the events, the events, and nothing more
unfoldable pub trace_from : Place → Result Trace TraceFault
trace_from place = do
  opening ← opening_from place
  count ← count_at opening.1
  events ← events_at opening.0.0 count.0 count.1
  ended_at events.1 (record { opening = opening.0.1; events = events.0 })

-- the trace of a text
unfoldable pub trace_of : List ℕ → Result Trace TraceFault
trace_of text = if nat_lt max_bytes (length text) then Err TooLong else trace_from (place_of text)

-- the lines of a trace
abbrev pub trace_rows : Trace → List Row
trace_rows trace = opening_rows trace.opening ++ number_row (codes "events") (length trace.events)
    ∷ map event_row trace.events

-- the text of a trace in version 2, with the byte 0A after each line
abbrev pub trace_text : Trace → List ℕ
trace_text trace = rows_text (trace_rows trace)
