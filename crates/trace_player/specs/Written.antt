-- The traces whose text is read back.
--     IsWritableTrace    a trace that is read back, by the ranges of its numbers
--     FitsText           a trace that is read back if its text is short, by what a program can test
use Rattle.std.specs.Prelude.{◌≤◌, List, [], ◌∷◌, length}
use Rattle.std.specs.List.{All}
use Rattle.relay_core.specs.Opening.{IsFitOpening}
use Rattle.relay_events.specs.declared.event.Event.{Event}
use Rattle.relay_recorder.specs.declared.trace.Trace.{Trace}
use Rattle.trace_lines.specs.Events.{max_events}
use Rattle.trace_openings.specs.OpeningTraced.{IsWritable}
use Rattle.trace_lines.specs.Traced.{FitsLine, IsTraced}
use Rattle.trace_player.specs.Traces.{max_bytes, trace_text}

-- whether the lines of all events are read back
abbrev pub AreTraced : List Event → Type 0
AreTraced [] = Unit {0}
AreTraced (event ∷ events) = IsTraced event × AreTraced events

-- whether lines can hold the opening and the events, and neither the number of events nor the
-- length of the text is above its maximum
pub record IsWritableTrace (trace : Trace) : Type 0 where
  pub opening : IsWritable trace.opening
  pub events : AreTraced trace.events
  pub few : length trace.events ≤ max_events
  pub short : length (trace_text trace) ≤ max_bytes

-- whether a core can have the opening, the events fit their lines, and their number is not above
-- the maximum
pub record FitsText (trace : Trace) : Type 0 where
  pub fit : IsFitOpening trace.opening
  pub events : All FitsLine trace.events
  pub few : length trace.events ≤ max_events
