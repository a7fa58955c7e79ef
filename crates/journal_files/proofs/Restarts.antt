-- A journal has its meter's run: the events that only read have no line, and change nothing.
use Rattle.std.proofs.Common.{◌≡◌, List, [], ◌∷◌, refl, ◌∙◌}
use Rattle.relay_core.proofs.RunLemmas.{world_after-append}
use Rattle.relay_core.specs.Machine.{at_event}
use Rattle.relay_core.specs.Opening.{world_of_opening}
use Rattle.relay_core.specs.Runs.{world_after}
use Rattle.relay_core.specs.World.{World}
use Rattle.relay_events.specs.declared.event.Event.{Event}
use Rattle.relay_events.specs.declared.event.Event.TheVariants.{Get, GetList}
use Rattle.relay_recorder.specs.declared.trace.Trace.{Trace}
use Rattle.trace_player.specs.Journals.{with_events}
use Rattle.trace_player.specs.Resuming.{world_of}
use Rattle.journal_files.specs.Journals.{changing}

-- an event that has no line changes nothing
changing_on : (event : Event) (events : List Event) (w : World)
    → ((v : World) → world_after (changing events) v ≡ world_after events v)
    → world_after (changing (event ∷ events)) w ≡ world_after (event ∷ events) w
unfolding at_event
changing_on (Get level attr selected) events w rest = rest w
changing_on (GetList level items) events w rest = rest w
changing_on event events w rest = rest _

pub changing_world : (events : List Event) (w : World)
    → world_after (changing events) w ≡ world_after events w
changing_world [] w = refl
changing_world (event ∷ events) w = changing_on event events w (λ v. changing_world events v)

-- the meter after a trace and further events, of which the journal has those that may change it
pub goes_on : (trace : Trace) (events : List Event)
    → world_of (with_events trace (changing events)) ≡ world_after events (world_of trace)
goes_on trace events =
    world_after-append trace.events (changing events) (world_of_opening trace.opening)
    ∙ changing_world events (world_of trace)
