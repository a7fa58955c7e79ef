-- The text of a trace of at most 1,024 events is not too long.
use Rattle.std.proofs.Common.{◌≡◌, ◌≤◌, List, [], ◌∷◌, codes, length, map, refl, arith, length-append}
use Rattle.std.proofs.lemmas.List.{length-map}
use Rattle.relay_core.specs.declared.opening.Opening.{Opening}
use Rattle.relay_recorder.specs.Recording.{max_capacity}
use Rattle.relay_recorder.specs.declared.trace.Trace.{Trace}
use Rattle.trace_lines.specs.Writing.{event_row}
use Rattle.trace_openings.specs.OpeningRows.{opening_rows}
use Rattle.trace_openings.specs.OpeningTraced.{IsWritable}
use Rattle.trace_words.specs.Labels.{number_row}
use Rattle.trace_words.specs.Rows.{Row}
use Rattle.relay_events.specs.declared.event.Event.{Event}
use Rattle.trace_lines.proofs.EventLaws.{event_short}
use Rattle.trace_openings.proofs.ShortOpenings.{opening_short}
use Rattle.trace_words.proofs.ShortRows.{AreShort, both_short, number_row_short, text_short}
use Rattle.trace_player.specs.Traces.{max_bytes, trace_rows, trace_text}
use Rattle.trace_player.specs.Written.{AreTraced}

events_short : (events : List Event) → AreTraced events → AreShort (map event_row events)
events_short [] are = tt
events_short (event ∷ events) (one, others) = (event_short event one, events_short events others)

thirty_rows : (o : Opening) → length (opening_rows o) ≡ 30
unfolding opening_rows
thirty_rows o = refl

pub few_are_short : (trace : Trace) → IsWritable trace.opening → AreTraced trace.events
    → length trace.events ≤ max_capacity → length (trace_text trace) ≤ max_bytes
few_are_short trace opening events few =
    let count : Row = number_row (codes "events") (length trace.events) in
    let others : List Row = map event_row trace.events in
    let are : AreShort (trace_rows trace) = both_short (opening_rows trace.opening) (count ∷ others)
    (opening_short trace.opening opening) (
      number_row_short (codes "events") (length trace.events) (omega arith) (omega (arith, few)),
      events_short trace.events events,
    ) in
    omega (
      arith,
      text_short (trace_rows trace) are,
      thirty_rows trace.opening,
      length-append (opening_rows trace.opening) (count ∷ others),
      length-map trace.events event_row,
      few,
    )
