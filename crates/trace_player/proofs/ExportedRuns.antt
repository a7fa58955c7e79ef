-- A run that is replayed prints the same lines.
use Rattle.std.proofs.Common.{◌≡◌, List, ap, ◌∙◌}
use Rattle.relay_events.specs.declared.event.Event.{Event}
use Rattle.relay_core.specs.Opening.{world_of_opening}
use Rattle.relay_core.specs.Runs.{lines_of}
use Rattle.relay_recorder.specs.Recording.{Recording}
use Rattle.relay_recorder.specs.Replaying.{Replays}
use Rattle.relay_recorder.specs.declared.trace.Trace.{Trace}
use Rattle.trace_player.specs.Exported.{PrintsTheEnd}
use Rattle.trace_player.specs.Playing.{lines_text}

-- a trace that replays the run of a recorder prints the same lines
pub prints_the_end : (r : Recording) (trace : Trace) → trace.events ≡ r.events
    → Replays r (world_of_opening trace.opening) → PrintsTheEnd r trace
prints_the_end r trace same replays = λ history origin stands.
    let runs = replays history origin stands in
    ap (λ (events : List Event). lines_text 1 (lines_of events (world_of_opening trace.opening)))
    same ∙ ap (lines_text 1) runs.lines
