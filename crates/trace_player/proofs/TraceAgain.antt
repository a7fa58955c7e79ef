-- A trace that is written is read back.
use Rattle.std.proofs.Common.{◌≡◌, ℕ, suc, ◌≤◌, Bool, true, false, ◌&&◌, nat_lt, if◌then◌else◌, List, [], ◌∷◌, ◌++◌, length, map, Result, Ok, Err, refl, ap, ap₂, ◌∙◌, arith, codes}
use Rattle.std.proofs.lemmas.Bool.Decides.{nat_tests}
use Rattle.std.proofs.lemmas.List.Folds.{list_all-append}
use Rattle.std.specs.List.{list_all}
use Rattle.relay_events.specs.declared.event.Event.{Event}
use Rattle.relay_core.specs.declared.opening.Opening.{Opening}
use Rattle.relay_recorder.specs.declared.trace.Trace.{Trace}
use Rattle.trace_lines.proofs.CountLemmas.{count_again}
use Rattle.trace_lines.proofs.EventLaws.{event_again, event_is_row}
use Rattle.trace_lines.proofs.EventLaws.{event_count_is_row}
use Rattle.trace_openings.specs.OpeningReading.{opening_from}
use Rattle.trace_words.specs.Labels.{number_row}
use Rattle.trace_openings.specs.OpeningRows.{opening_rows}
use Rattle.trace_openings.specs.OpeningTraced.{IsWritable}
use Rattle.trace_words.specs.Places.{Place, line_as, ended_at, place_of}
use Rattle.trace_words.specs.Rows.{Row}
use Rattle.trace_lines.specs.Writing.{event_row}
use Rattle.trace_words.specs.declared.fault.TraceFault.{TraceFault}
use Rattle.trace_words.specs.declared.fault.TraceFault.TheVariants.{TooLong}
use Rattle.trace_words.specs.declared.version.Version.TheVariants.{Two}
use Rattle.trace_player.specs.Traces.{max_bytes, events_at, trace_from, trace_of, trace_rows, trace_text}
use Rattle.trace_player.specs.Written.{AreTraced, IsWritableTrace}
use Rattle.text_lines.proofs.Known.{rows_whole, rows_ended}
use Rattle.text_lines.specs.Lines.{is_row}

-- the lines of an opening are read back, whatever lines follow, and are lines of words
abbrev pub OpensAgain : Type 0
OpensAgain = (opening : Opening) (rows : List Row) (unended : List ℕ) → IsWritable opening
    → opening_from (record { number = 1; rows = opening_rows opening ++ rows; unended = unended })
    ≡ Ok ((Two, opening), record { number = 31; rows = rows; unended = unended })

abbrev pub HasRows : Type 0
HasRows = (opening : Opening) → IsWritable opening → list_all is_row (opening_rows opening) ≡ true

-- ---- rows

pub both_true : (a b : Bool) → a ≡ true → b ≡ true → (a && b) ≡ true
both_true a b ea eb = rw (ea, eb) refl

-- the lines of events are lines of words
pub are_rows : (events : List Event) → AreTraced events
    → list_all is_row (map event_row events) ≡ true
are_rows [] are = refl
are_rows (event ∷ events) (one, are) = both_true (is_row (event_row event))
    (list_all is_row (map event_row events)) (event_is_row event one) (are_rows events are)

-- all lines of a trace are lines of words
rows_are : HasRows → (trace : Trace) → IsWritableTrace trace
    → list_all is_row (trace_rows trace) ≡ true
rows_are has trace is =
    let count : Row = number_row (codes "events") (length trace.events) in
    let others : List Row = map event_row trace.events in
    list_all-append is_row (opening_rows trace.opening) (count ∷ others)
    ∙ both_true (list_all is_row (opening_rows trace.opening)) (list_all is_row (count ∷ others))
    (has trace.opening is.opening)
    (both_true (is_row count) (list_all is_row others)
    (event_count_is_row (length trace.events) is.few) (are_rows trace.events is.events))

-- ---- reading

-- the number of the line after those of events, the first of which has this number
abbrev pub behind_events : ℕ → List Event → ℕ
behind_events number [] = number
behind_events number (event ∷ events) = behind_events (suc number) events

abbrev pub events_place : ℕ → List Event → Place
events_place number events = record { number = number; rows = map event_row events; unended = [] }

pub events_again : (events : List Event) (number : ℕ) → AreTraced events
    → events_at Two (length events) (events_place number events)
    ≡ Ok (events, events_place (behind_events number events) [])
unfolding events_at line_as
events_again [] number are = refl
events_again (event ∷ events) number (one, are) =
    let h = event_again event one in
    let others = events_again events (suc number) are in
    rw (h, others) refl

from_again : OpensAgain → (trace : Trace) → IsWritableTrace trace
    → trace_from (record { number = 1; rows = trace_rows trace; unended = [] }) ≡ Ok trace
unfolding trace_from ended_at
from_again opens trace is =
    let h = opens trace.opening (number_row (codes "events") (length trace.events)
    ∷ map event_row trace.events) [] is.opening in
    let count = count_again (length trace.events) 31 (map event_row trace.events) [] is.few in
    let events = events_again trace.events 32 is.events in
    rw (h, count, events) refl

-- ---- all of it

place_is : HasRows → (trace : Trace) → IsWritableTrace trace → place_of (trace_text trace)
    ≡ record { number = 1; rows = trace_rows trace; unended = [] }
place_is has trace is =
    let made : List Row → List ℕ → Place = λ rows unended. record {
      number = 1;
      rows = rows;
      unended = unended;
    } in
    ap₂ made (rows_whole (trace_rows trace) (rows_are has trace is))
    (rows_ended (trace_rows trace) (rows_are has trace is))

pub short_enough : (n : ℕ) → n ≤ max_bytes → nat_lt max_bytes n ≡ false
short_enough n le = grind (arith, nat_tests)

pub trace_again : OpensAgain → HasRows → (trace : Trace) → IsWritableTrace trace
    → trace_of (trace_text trace) ≡ Ok trace
unfolding trace_of
trace_again opens has trace is =
    let short = short_enough (length (trace_text trace)) is.short in
    let choice : Bool → Result Trace TraceFault =
    λ long. if long then Err TooLong else trace_from (place_of (trace_text trace)) in
    ap choice short ∙ ap (λ (place : Place). trace_from place) (place_is has trace is)
    ∙ from_again opens trace is
