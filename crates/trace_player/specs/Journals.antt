-- A journal: a trace that is still being written. Its line of the number of events is `events -`,
-- so that lines may be appended; its events are all whole lines up to its first byte 0.
--     journal_text    the text of a journal
--     events_text     the lines of events that are appended to it
--     with_events     a trace with further events
--     FitsJournal     a trace whose journal is read back if it is short
--     IsJournal       a text that begins as a journal
use Rattle.std.specs.Prelude.{◌≡◌, ℕ, codes, List, [], ◌∷◌, ◌++◌, drop, map}
use Rattle.std.specs.List.{All}
use Rattle.relay_core.specs.Opening.{IsFitOpening}
use Rattle.relay_events.specs.declared.event.Event.{Event}
use Rattle.relay_recorder.specs.declared.trace.Trace.{Trace}
use Rattle.text_lines.specs.Lines.{lines_of, rows_text}
use Rattle.trace_lines.specs.OpenCount.{open_row}
use Rattle.trace_lines.specs.Traced.{FitsLine}
use Rattle.trace_lines.specs.Writing.{event_row}
use Rattle.trace_openings.specs.OpeningRows.{opening_rows}
use Rattle.trace_words.specs.Rows.{Row}

-- the lines of a journal
abbrev pub journal_rows : Trace → List Row
journal_rows trace = opening_rows trace.opening ++ open_row ∷ map event_row trace.events

-- the text of a journal, with the byte 0A after each line
abbrev pub journal_text : Trace → List ℕ
journal_text trace = rows_text (journal_rows trace)

-- the lines of events
abbrev pub events_text : List Event → List ℕ
events_text events = rows_text (map event_row events)

-- a trace with further events
abbrev pub with_events : Trace → List Event → Trace
with_events trace more = record { opening = trace.opening; events = trace.events ++ more }

-- whether a trace has an opening that a core can have, and events that fit their lines
pub record FitsJournal (trace : Trace) : Type 0 where
  pub fit : IsFitOpening trace.opening
  pub events : All FitsLine trace.events

-- whether the first of the lines is this one
abbrev pub StartsWith : List (List ℕ) → List ℕ → Type 0
StartsWith [] line = ⊥
StartsWith (first ∷ lines) line = first ≡ line

-- Whether a text begins as a journal: its version is 2, and `events -` is its line 31, which
-- follows the 30 lines of an opening. Its lines may be wrong.
abbrev pub IsJournal : List ℕ → Type 0
IsJournal text = StartsWith (lines_of text) (codes "RELAYTRACE 2")
    × StartsWith (drop 30 (lines_of text)) (codes "events -")
