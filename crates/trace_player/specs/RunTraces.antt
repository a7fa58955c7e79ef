-- The text of the trace of a recorder.
use Rattle.std.specs.Prelude.{◌≡◌, ℕ, List, Ok}
use Rattle.std.specs.List.{All}
use Rattle.trace_player.specs.Resuming.{IsTraceOf}
use Rattle.relay_core.specs.Opening.{world_of_opening}
use Rattle.relay_recorder.specs.Recording.{Recording}
use Rattle.relay_recorder.specs.Replaying.{Replays}
use Rattle.relay_recorder.specs.declared.trace.Trace.{Trace}
use Rattle.trace_player.specs.Exported.{PrintsTheEnd}
use Rattle.trace_lines.specs.Traced.{FitsLine}
use Rattle.trace_player.specs.Traces.{trace_of, trace_text}

-- Whether a text is that of the recorder's trace. Replayed, this trace runs as the meter did and
-- prints the lines of the kept events, and it is read back from the text if each of these events
-- fits its line.
pub record TellsRun (r : Recording) (text : List ℕ) : Type 0 where
  pub trace : Trace
  pub written : text ≡ trace_text trace
  pub traced : IsTraceOf r trace
  pub replays : Replays r (world_of_opening trace.opening)
  pub prints : PrintsTheEnd r trace
  pub again : All FitsLine r.events → trace_of text ≡ Ok trace
