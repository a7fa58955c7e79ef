-- The text of a recorder's trace represents its run.
use Rattle.std.proofs.Common.{◌≡◌, ◌≤◌, List, ℕ, All, length, Result, Ok, Err, IfOk, sym, subst, arith}
use Rattle.trace_player.specs.RunTraces.{TellsRun}
use Rattle.relay_core.specs.Opening.{IsFitOpening, world_of_opening, opening_of}
use Rattle.relay_events.specs.declared.event.Event.{Event}
use Rattle.relay_recorder.specs.Recording.{Recording, max_capacity}
use Rattle.relay_recorder.specs.Replaying.{Replays}
use Rattle.relay_recorder.specs.declared.trace.Trace.{Trace}
use Rattle.trace_lines.specs.Traced.{FitsLine}
use Rattle.trace_player.specs.Exported.{PrintsTheEnd}
use Rattle.trace_player.specs.Traces.{max_bytes, trace_of, trace_text}
use Rattle.trace_player.specs.Written.{FitsText}

-- the facts about an exported trace
pub record IsExport (r : Recording) (trace : Trace) : Type 0 where
  pub opening : trace.opening ≡ opening_of r.opening
  pub events : trace.events ≡ r.events
  pub fit : IsFitOpening trace.opening
  pub few : length trace.events ≤ max_capacity
  pub replays : Replays r (world_of_opening trace.opening)

fits_text : (r : Recording) (trace : Trace) → IsExport r trace → All FitsLine r.events
    → FitsText trace
fits_text r trace is fit = record {
  fit = is.fit;
  events = subst (λ (events : List Event). All FitsLine events) (sym is.events) fit;
  few = omega (arith, is.few);
}

tells : (r : Recording) (trace : Trace) (text : List ℕ) → IsExport r trace → PrintsTheEnd r trace
    → text ≡ trace_text trace
    → (FitsText trace → length text ≤ max_bytes → trace_of text ≡ Ok trace)
    → (FitsText trace → length trace.events ≤ max_capacity → length text ≤ max_bytes)
    → TellsRun r text
tells r trace text is prints written again short = record {
  trace = trace;
  written = written;
  traced = record { opening = is.opening; events = is.events };
  replays = is.replays;
  prints = prints;
  again = λ fit. let fits = fits_text r trace is fit in again fits (short fits is.few);
}

pub tells_run : {E : Type 0} (r exported : Recording) (trace : Trace) (result : Result (List ℕ) E)
    → exported ≡ r → IsExport exported trace
    → ((s : Recording) (t : Trace) → t.events ≡ s.events → Replays s (world_of_opening t.opening)
    → PrintsTheEnd s t)
    → IfOk result (λ text. text ≡ trace_text trace)
    → IfOk result (λ text. FitsText trace → length text ≤ max_bytes → trace_of text ≡ Ok trace)
    → IfOk result (λ text. FitsText trace → length trace.events ≤ max_capacity
    → length text ≤ max_bytes)
    → IfOk result (TellsRun r)
tells_run r exported trace (Ok text) same is prints written again short =
    subst (λ (s : Recording). TellsRun s text) same
    (tells exported trace text is (prints exported trace is.events is.replays) written
    again short)
tells_run r exported trace (Err error) same is prints written again short = tt
