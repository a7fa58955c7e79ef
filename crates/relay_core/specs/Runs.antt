-- Lists of events: the world after them, their lines, and how a run of the core that ran out of
-- memory stops.
use Rattle.std.specs.Prelude.{◌≡◌, ℕ, ◌≤◌, ◌⊎◌, false, List, [], ◌∷◌, Some, length, take, slice_get}
use Rattle.disconnect_control.specs.declared.state.ControlState.TheVariants.{Connected}
use Rattle.disconnect_control.specs.Transitions.{is_state}
use Rattle.relay_events.specs.declared.event.Event.{Event}
use Rattle.relay_events.specs.declared.reply.Line.{Line}
use Rattle.relay_core.specs.declared.relay.RelayCore.{RelayCore}
use Rattle.relay_core.specs.Machine.{at_event, is_sure}
use Rattle.relay_core.specs.Stands.{StandsFor}
use Rattle.relay_core.specs.World.{World, Stepped}

-- the line of a step: its reply, and the switch's state and output after it
abbrev pub line_of : Stepped → Line
line_of s = record {
  reply = s.reply;
  state = s.world.control.state;
  output = is_state s.world.control.state Connected;
}

-- the line of an event in a world
abbrev pub line_at : Event → World → Line
line_at event w = line_of (at_event event w)

-- the world after a list of events
abbrev pub world_after : List Event → World → World
world_after [] w = w
world_after (event ∷ events) w = world_after events (at_event event w).world

-- the lines of a list of events
abbrev pub lines_of : List Event → World → List Line
lines_of [] w = []
lines_of (event ∷ events) w = line_at event w ∷ lines_of events (at_event event w).world

-- whether a core ran through events: for every world that it represented, it represents the world
-- after the events, and their lines are these
pub record Runs (old new : RelayCore) (events : List Event) (lines : List Line) : Type 0 where
  pub world : (w : World) → StandsFor old w → StandsFor new (world_after events w)
  pub answered : (w : World) → StandsFor old w → lines ≡ lines_of events w

-- whether a core ran through the first of these events and stopped, either before the first event
-- or at one that may allocate
pub record StopsEarly (old new : RelayCore) (events : List Event) (done : List Line) : Type 0 where
  pub count : ℕ
  pub within : count ≤ length events
  pub ran : Runs old new (take count events) done
  pub cause : (count ≡ 0)
      ⊎ ((event : Event) × (slice_get events count ≡ Some event) × (is_sure event ≡ false))
