-- A meter that resumes from the trace of an earlier run.
use Rattle.std.specs.Prelude.{◌≡◌, List}
use Rattle.relay_core.specs.Opening.{world_of_opening, opening_of}
use Rattle.relay_core.specs.Runs.{world_after}
use Rattle.relay_core.specs.World.{World}
use Rattle.relay_events.specs.declared.event.Event.{Event}
use Rattle.relay_recorder.specs.Histories.{Exchange, StandsForHistory, events_of, replies_from}
use Rattle.relay_recorder.specs.Recording.{Recording}
use Rattle.relay_recorder.specs.declared.trace.Trace.{Trace}

-- the world after the run of a trace
abbrev pub world_of : Trace → World
world_of trace = world_after trace.events (world_of_opening trace.opening)

-- whether the trace is the one that this recorder exports
pub record IsTraceOf (r : Recording) (trace : Trace) : Type 0 where
  pub opening : trace.opening ≡ opening_of r.opening
  pub events : trace.events ≡ r.events

-- whether a meter that represents this world answers every further event as one with this history
-- would have answered
abbrev pub AnswersAlike : World → List Exchange → World → Type 0
AnswersAlike world history origin = (further : List Event)
    → replies_from world further ≡ replies_from (world_after (events_of history) origin) further

-- whether a meter that represents this world continues from the end of the run of the meter that
-- wrote the trace
abbrev pub ContinuesRun : Trace → World → Type 0
ContinuesRun trace world = (r : Recording) → IsTraceOf r trace
    → (history : List Exchange) (origin : World) → StandsForHistory r history origin
    → AnswersAlike world history origin
