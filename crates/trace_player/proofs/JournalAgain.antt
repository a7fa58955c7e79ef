-- A journal is read back, also after it has grown and with a torn tail.
use Rattle.std.proofs.Common.{◌≡◌, ℕ, ◌≤◌, Bool, true, if◌then◌else◌, List, [], ◌∷◌}
use Rattle.std.proofs.Common.{◌++◌, length, map, Result, Ok, Err, refl, sym, ap, ap₂, ◌∙◌, arith}
use Rattle.std.proofs.Common.{append_assoc, append-nil}
use Rattle.std.proofs.lemmas.List.{length-map, map-append}
use Rattle.std.proofs.lemmas.List.Folds.{list_all-append}
use Rattle.std.specs.List.{list_all}
use Rattle.relay_events.specs.declared.event.Event.{Event}
use Rattle.relay_recorder.specs.declared.trace.Trace.{Trace}
use Rattle.text_lines.proofs.LinesLemmas.{rows_again, rows_text-append, unended_again}
use Rattle.text_lines.specs.Lines.{is_row, rows_of, rows_text, unended_of}
use Rattle.trace_lines.proofs.CountLemmas.{open_count_again}
use Rattle.trace_lines.proofs.NoZeros.{event_plain}
use Rattle.trace_lines.specs.OpenCount.{open_row}
use Rattle.trace_lines.specs.Writing.{event_row}
use Rattle.trace_openings.specs.OpeningRows.{opening_rows}
use Rattle.trace_openings.specs.OpeningTraced.{IsWritable}
use Rattle.trace_words.proofs.TailLemmas.{unended_is_tail}
use Rattle.trace_words.specs.Places.{Place, ended_at, place_of}
use Rattle.trace_words.specs.Rows.{Row}
use Rattle.trace_words.specs.WholeLines.{IsTail, before_zero}
use Rattle.trace_words.specs.declared.fault.TraceFault.{TraceFault}
use Rattle.trace_words.specs.declared.fault.TraceFault.TheVariants.{TooLong}
use Rattle.trace_player.proofs.TraceAgain.{HasRows, OpensAgain, are_rows, both_true, events_again}
use Rattle.trace_player.proofs.TraceAgain.{short_enough}
use Rattle.trace_player.specs.Journals.{events_text, journal_rows, journal_text, with_events}
use Rattle.trace_player.specs.Traces.{max_bytes, trace_from, trace_of}
use Rattle.trace_player.specs.Written.{AreTraced}

-- ---- the lines of events

pub traced_append : (events more : List Event) → AreTraced events → AreTraced more
    → AreTraced (events ++ more)
traced_append [] more are others = others
traced_append (event ∷ events) more (one, are) others =
    (one, traced_append events more are others)

-- the lines of events have no byte 0, so they are kept
pub events_kept : (events : List Event) (others : List Row) → AreTraced events
    → before_zero (map event_row events ++ others) ≡ map event_row events ++ before_zero others
events_kept [] others are = refl
events_kept (event ∷ events) others (one, are) =
    rw (event_plain event one) (ap (λ (rows : List Row). event_row event ∷ rows)
    (events_kept events others are))

empty_tail : IsTail []
empty_tail = unended_is_tail [] refl

-- ---- the lines of a journal

pub journal_rows_are : HasRows → (trace : Trace) → IsWritable trace.opening → AreTraced trace.events
    → list_all is_row (journal_rows trace) ≡ true
journal_rows_are has trace opening are =
    let others : List Row = map event_row trace.events in
    list_all-append is_row (opening_rows trace.opening) (open_row ∷ others)
    ∙ both_true (list_all is_row (opening_rows trace.opening)) (list_all is_row (open_row ∷ others))
    (has trace.opening opening) (are_rows trace.events are)

-- the text of a journal that has grown
grown_text : (trace : Trace) (more : List Event) (tail : List ℕ)
    → journal_text trace ++ events_text more ++ tail
    ≡ journal_text (with_events trace more) ++ tail
grown_text trace more tail =
    let front : List Row = opening_rows trace.opening in
    let events : List Row = map event_row trace.events in
    let others : List Row = map event_row more in
    let rows : journal_rows trace ++ others ≡ journal_rows (with_events trace more) =
    append_assoc front (open_row ∷ events) others
    ∙ ap (λ (rows : List Row). front ++ open_row ∷ rows) (sym (map-append event_row trace.events
    more)) in
    ap (λ (bytes : List ℕ). bytes ++ tail) (sym (rows_text-append (journal_rows trace) others)
    ∙ ap rows_text rows)

-- ---- reading

from_journal : OpensAgain → (trace : Trace) (rows : List Row) (unended : List ℕ)
    → IsWritable trace.opening → AreTraced trace.events → before_zero rows ≡ []
    → trace_from (record { number = 1; rows = journal_rows trace ++ rows; unended = unended })
    ≡ Ok trace
unfolding trace_from ended_at
from_journal opens trace rows unended writable are tail =
    let events : List Row = map event_row trace.events in
    let joined : journal_rows trace ++ rows
    ≡ opening_rows trace.opening ++ (open_row ∷ (events ++ rows)) =
    append_assoc (opening_rows trace.opening) (open_row ∷ events) rows in
    let h = opens trace.opening (open_row ∷ (events ++ rows)) unended writable in
    let count = open_count_again 31 (events ++ rows) unended in
    let kept : before_zero (events ++ rows) ≡ events =
    events_kept trace.events rows are ∙ ap (λ (others : List Row). events ++ others) tail
    ∙ append-nil events in
    let read = events_again trace.events 32 are in
    rw (joined, h, count, kept, length-map trace.events event_row, read) refl

journal_place : HasRows → (trace : Trace) (tail : List ℕ) → IsWritable trace.opening
    → AreTraced trace.events → place_of (journal_text trace ++ tail)
    ≡ record { number = 1; rows = journal_rows trace ++ rows_of tail; unended = unended_of tail }
journal_place has trace tail writable are =
    let all = journal_rows_are has trace writable are in
    let made : List Row → List ℕ → Place = λ rows unended. record {
      number = 1;
      rows = rows;
      unended = unended;
    } in
    ap₂ made (rows_again (journal_rows trace) tail all)
    (unended_again (journal_rows trace) tail all)

journal_again : OpensAgain → HasRows → (trace : Trace) (tail : List ℕ) → IsWritable trace.opening
    → AreTraced trace.events → IsTail tail → length (journal_text trace ++ tail) ≤ max_bytes
    → trace_of (journal_text trace ++ tail) ≡ Ok trace
unfolding trace_of
journal_again opens has trace tail writable are is_tail le =
    let text = journal_text trace ++ tail in
    let short = short_enough (length text) le in
    let choice : Bool → Result Trace TraceFault =
    λ long. if long then Err TooLong else trace_from (place_of text) in
    ap choice short ∙ ap trace_from (journal_place has trace tail writable are)
    ∙ from_journal opens trace (rows_of tail) (unended_of tail) writable are is_tail

-- a journal that has grown, with a torn tail
pub grown_again : OpensAgain → HasRows → (trace : Trace) (more : List Event) (tail : List ℕ)
    → IsWritable trace.opening → AreTraced trace.events → AreTraced more → IsTail tail
    → length (journal_text trace ++ events_text more ++ tail) ≤ max_bytes
    → trace_of (journal_text trace ++ events_text more ++ tail) ≡ Ok (with_events trace more)
grown_again opens has trace more tail writable are others is_tail le =
    let text = grown_text trace more tail in
    let l = ap (λ (bytes : List ℕ). length bytes) text in
    ap trace_of text
    ∙ journal_again opens has (with_events trace more) tail writable
    (traced_append trace.events more are others) is_tail (omega (arith, le, l))

-- a journal that has not grown
pub whole_again : OpensAgain → HasRows → (trace : Trace) → IsWritable trace.opening
    → AreTraced trace.events → length (journal_text trace) ≤ max_bytes
    → trace_of (journal_text trace) ≡ Ok trace
whole_again opens has trace writable are le =
    let none = append-nil (journal_text trace) in
    let l = ap (λ (bytes : List ℕ). length bytes) none in
    ap trace_of (sym none)
    ∙ journal_again opens has trace [] writable are empty_tail (omega (arith, le, l))
