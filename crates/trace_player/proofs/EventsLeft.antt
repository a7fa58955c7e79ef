-- Lines of events, written one after the other.
use Rattle.std.proofs.Common.{◌≡◌, ℕ, suc, ◌+◌, ◌<◌, ◌≤◌, List, [], ◌∷◌, ◌++◌, length, map, drop, get_or, refl, sym, ap, ◌∙◌, append_assoc, append-nil, add-one, drop-cons, codes}
use Rattle.std.proofs.lemmas.List.{drop_all}
use Rattle.relay_events.specs.declared.event.Event.{Event}
use Rattle.relay_recorder.specs.declared.trace.Trace.{Trace}
use Rattle.trace_words.specs.Labels.{number_row}
use Rattle.trace_openings.specs.OpeningRows.{opening_rows}
use Rattle.trace_words.specs.Rows.{Row}
use Rattle.trace_lines.specs.Writing.{event_row}
use Rattle.trace_lines.specs.OpenCount.{open_row}
use Rattle.trace_player.specs.Journals.{journal_text}
use Rattle.trace_player.specs.Traces.{trace_text}
use Rattle.text_lines.proofs.LinesLemmas.{rows_text-cons, rows_text-nil, rows_text-append}
use Rattle.text_lines.specs.Lines.{rows_text}
use Rattle.text_lines.specs.Words.{line_of}

-- what was written, joined with the lines of events that are still to be written from a place on
pub record EventsLeft (events : List Event) (i : ℕ) (out total : List ℕ) : Type 0 where
  pub all : out ++ rows_text (map event_row (drop i events)) ≡ total

-- nothing is written yet
pub no_event_written : (events : List Event) (out : List ℕ)
    → EventsLeft events 0 out (out ++ rows_text (map event_row events))
no_event_written events out = record { all = refl }

-- the line of one more event is written
pub event_more : (events : List Event) (i : ℕ) (event : Event) (out new total : List ℕ)
    → i < length events → event ≡ get_or events i event
    → new ≡ out ++ line_of (event_row event) ++ 10 ∷ [] → EventsLeft events i out total
    → EventsLeft events (i + 1) new total
event_more events i event out new total lt is written left =
    let rest = rows_text (map event_row (drop (suc i) events)) in
    let next : drop i events ≡ event ∷ drop (suc i) events =
    drop-cons events i event lt ∙ ap (λ (e : Event). e ∷ drop (suc i) events) (sym is) in
    let one : out ++ rows_text (map event_row (drop i events)) ≡ new ++ rest =
    ap (λ (es : List Event). out ++ rows_text (map event_row es)) next
    ∙ ap (λ (bs : List ℕ). out ++ bs) (rows_text-cons (event_row event)
    (map event_row (drop (suc i) events)))
    ∙ sym (append_assoc out (line_of (event_row event)) (10 ∷ rest))
    ∙ sym (append_assoc (out ++ line_of (event_row event)) (10 ∷ []) rest)
    ∙ ap (λ (bs : List ℕ). bs ++ rest) (sym written) in
    record { all = rw add-one (sym one ∙ left.all) }

-- all lines are written
pub events_written : (events : List Event) (i : ℕ) (out total : List ℕ) → length events ≤ i
    → EventsLeft events i out total → out ≡ total
events_written events i out total le left =
    sym (append-nil out)
    ∙ ap (λ (bs : List ℕ). out ++ bs) (sym rows_text-nil)
    ∙ ap (λ (es : List Event). out ++ rows_text (map event_row es)) (sym (drop_all i events le))
    ∙ left.all

-- the parts of a text make all of it
pub text_joined : (trace : Trace) (a b c : List ℕ) → a ≡ []
    ++ rows_text (opening_rows trace.opening)
    → b ≡ a ++ rows_text (number_row (codes "events") (length trace.events) ∷ []) → c ≡ b
    ++ rows_text (map event_row trace.events) → c ≡ trace_text trace
text_joined trace a b c first second third =
    let rows : List Row = opening_rows trace.opening in
    let count : List Row = number_row (codes "events") (length trace.events) ∷ [] in
    let events : List Row = map event_row trace.events in
    let whole : rows_text (rows ++ (count ++ events)) ≡ rows_text rows ++ rows_text count
    ++ rows_text events =
    rows_text-append rows (count ++ events)
    ∙ ap (λ (bs : List ℕ). rows_text rows ++ bs) (rows_text-append count events)
    ∙ sym (append_assoc (rows_text rows) (rows_text count) (rows_text events)) in
    third ∙ ap (λ (bs : List ℕ). bs ++ rows_text events) (second
    ∙ ap (λ (bs : List ℕ). bs ++ rows_text count) first) ∙ sym whole

-- the parts of a journal make all of it
pub journal_joined : (trace : Trace) (a b c : List ℕ) → a ≡ []
    ++ rows_text (opening_rows trace.opening)
    → b ≡ a ++ rows_text (open_row ∷ []) → c ≡ b
    ++ rows_text (map event_row trace.events) → c ≡ journal_text trace
journal_joined trace a b c first second third =
    let rows : List Row = opening_rows trace.opening in
    let count : List Row = open_row ∷ [] in
    let events : List Row = map event_row trace.events in
    let whole : rows_text (rows ++ (count ++ events)) ≡ rows_text rows ++ rows_text count
    ++ rows_text events =
    rows_text-append rows (count ++ events)
    ∙ ap (λ (bs : List ℕ). rows_text rows ++ bs) (rows_text-append count events)
    ∙ sym (append_assoc (rows_text rows) (rows_text count) (rows_text events)) in
    third ∙ ap (λ (bs : List ℕ). bs ++ rows_text events) (second
    ∙ ap (λ (bs : List ℕ). bs ++ rows_text count) first) ∙ sym whole
