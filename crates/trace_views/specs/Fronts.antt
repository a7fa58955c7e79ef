-- The front of a damaged trace: its opening and the whole events before its first wrong line.
--     IsLine           the fault of a line
--     ReadsEvent       what code that reads the next event returns
--     events_front     the events before the first wrong line, and the fault of that line
--     front_of         the front of a text, or the fault of a text that has none
--     trace_by         the trace of a front that ends without a fault
--     front_text       what a view shows of the front of a text
use Rattle.std.specs.Prelude.{◌≡◌, ℕ, zero, suc, nat_lt, if◌then◌else◌, List, [], ◌∷◌, length}
use Rattle.std.specs.Prelude.{Result, Ok, Err}
use Rattle.wire_bytes.specs.Outcome.{◌>>=◌, ◌>>◌}
use Rattle.relay_core.specs.declared.opening.Opening.{Opening}
use Rattle.relay_events.specs.declared.event.Event.{Event}
use Rattle.relay_recorder.specs.declared.trace.Trace.{Trace}
use Rattle.trace_lines.specs.Events.{event_of}
use Rattle.trace_lines.specs.OpenCount.{count_at}
use Rattle.trace_openings.specs.OpeningReading.{opening_from}
use Rattle.trace_player.specs.Traces.{max_bytes}
use Rattle.trace_words.specs.Places.{Place, ReadLines, line_as, ended_at, place_of}
use Rattle.trace_words.specs.declared.fault.TraceFault.{TraceFault}
use Rattle.trace_words.specs.declared.fault.TraceFault.TheVariants.{Line, TooLong}
use Rattle.trace_words.specs.declared.version.Version.{Version}
use Rattle.trace_views.specs.Views.{view_text}
use Rattle.trace_views.specs.declared.view.TraceView.{TraceView}

-- whether reading came to an end, or the fault of the first wrong line
abbrev pub End : Type 0
End = Result (Unit {0}) TraceFault

-- an event that was read, before those of the lines after it; none if its line is wrong
abbrev pub events_with : ReadLines Event → (Place → List Event × End) → List Event × End
events_with (Ok read) others = (read.0 ∷ (others read.1).0, (others read.1).1)
events_with (Err fault) others = ([], Err fault)

-- whether a fault is that of a line
abbrev pub IsLine : TraceFault → Type 0
IsLine (Line number) = Unit {0}
IsLine _ = ⊥

-- whether code read the next line as this event, or returned the fault of the line
abbrev pub ReadsEvent : Result Event TraceFault → Place → ReadLines Event → Type 0
ReadsEvent (Ok event) new given = given ≡ Ok (event, new)
ReadsEvent (Err fault) new given = (given ≡ Err fault) × IsLine fault

-- the events of the next lines before the first wrong one, at most this number, after which nothing
-- may be left
unfoldable pub events_front : Version → ℕ → Place → List Event × End
events_front version zero place = ([], ended_at place tt)
events_front version (suc count) place =
    events_with (line_as (event_of version) place) (λ later. events_front version count later)

-- a trace of an opening and of events
abbrev pub front_with : Opening → List Event × End → Trace × End
front_with opening front = (record { opening = opening; events = front.0 }, front.1)

-- the opening, the number of the events, and the whole events before the first wrong line
unfoldable pub front_from : Place → Result (Trace × End) TraceFault
front_from place = do
  opening ← opening_from place
  count ← count_at opening.1
  Ok (front_with opening.0.1 (events_front opening.0.0 count.0 count.1))

-- the front of a text; a text that is too long, or whose opening or number of events is wrong, has
-- none
unfoldable pub front_of : List ℕ → Result (Trace × End) TraceFault
front_of text = if nat_lt max_bytes (length text) then Err TooLong else front_from (place_of text)

-- the trace of a front that ends without a fault
abbrev pub trace_by : Result (Trace × End) TraceFault → Result Trace TraceFault
trace_by front = front >>= λ whole. whole.1 >> Ok whole.0

-- what a view shows of a front
abbrev pub text_by : TraceView → Result (Trace × End) TraceFault → List ℕ
text_by view (Ok front) = view_text view front.0
text_by view (Err fault) = []

-- what a view shows of the front of a text
abbrev pub front_text : TraceView → List ℕ → List ℕ
front_text view text = text_by view (front_of text)
