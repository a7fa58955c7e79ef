-- The lines of a journal that was renewed while its meter ran.
--     event_lines    the lines of events
--     HoldsRun       the file of a journal holds the lines of a run
use Rattle.std.specs.Prelude.{ℕ, List, map}
use Rattle.durable_lines.specs.Holding.{Holds}
use Rattle.durable_lines.specs.Lines.{lines_in}
use Rattle.relay_events.specs.declared.event.Event.{Event}
use Rattle.text_lines.specs.Words.{line_of}
use Rattle.trace_lines.specs.Writing.{event_row}
use Rattle.journal_files.specs.Journals.{changing}
use Rattle.journal_files.specs.Renewals.{IsRenewedAs}

-- the lines of events, in order
abbrev pub event_lines : List Event → List (List ℕ)
event_lines events = map line_of (map event_row events)

-- whether the file of a journal holds the lines of a run. The file began as a journal with these
-- bytes. Lines of the events that may change the meter were appended to it, and it was renewed any
-- number of times meanwhile
abbrev pub HoldsRun : (began : List ℕ) → (events : List Event) → (bytes : List ℕ) → Type 0
HoldsRun began events bytes =
    Holds IsRenewedAs (lines_in began) (event_lines (changing events)) bytes
