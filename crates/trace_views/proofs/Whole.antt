-- The view that shows each line, without its event, is what a trace prints.
use Rattle.std.proofs.Common.{◌≡◌, ℕ, suc, false, List, [], ◌∷◌, ◌++◌, refl, ap, ◌∙◌, append_assoc}
use Rattle.std.proofs.Common.{append-nil, arith}
use Rattle.relay_core.specs.Machine.{at_event}
use Rattle.relay_core.specs.Opening.{world_of_opening}
use Rattle.relay_core.specs.Runs.{line_at, lines_of}
use Rattle.relay_core.specs.World.{World}
use Rattle.relay_events.specs.declared.event.Event.{Event}
use Rattle.relay_events.specs.declared.reply.Line.{Line}
use Rattle.relay_recorder.specs.declared.trace.Trace.{Trace}
use Rattle.trace_lines.specs.Replies.{line_text}
use Rattle.trace_player.specs.Playing.{lines_text, output_of_trace}
use Rattle.trace_views.specs.Views.{step_text, steps, steps_text, view_text, whole_view}

-- the line of an event without the event, before other lines
alone : (number : ℕ) (event : Event) (line : Line) (rest : List ℕ)
    → step_text false number event line ++ rest ≡ line_text number line ++ 10 ∷ rest
alone number event line rest = grind (arith, append_assoc, append-nil)

whole_from : (number : ℕ) (events : List Event) (w : World)
    → steps_text whole_view (steps number events w) ≡ lines_text number (lines_of events w)
unfolding lines_text
whole_from number [] w = refl
whole_from number (event ∷ events) w =
    let after = (at_event event w).world in
    alone number event (line_at event w) (steps_text whole_view (steps (suc number) events after))
    ∙ ap (λ (bytes : List ℕ). line_text number (line_at event w) ++ 10 ∷ bytes)
    (whole_from (suc number) events after)

pub whole_is_output : (trace : Trace) → view_text whole_view trace ≡ output_of_trace trace
whole_is_output trace = whole_from 1 trace.events (world_of_opening trace.opening)
