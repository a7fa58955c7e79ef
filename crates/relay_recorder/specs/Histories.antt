-- The histories that a recorder may have.
use Rattle.std.specs.Prelude.{◌≡◌, List, [], ◌∷◌, ◌++◌, map}
use Rattle.circular_buffer.specs.Buffer.{keep_last}
use Rattle.relay_events.specs.declared.event.Event.{Event}
use Rattle.relay_events.specs.declared.reply.Line.{Line}
use Rattle.relay_events.specs.declared.reply.Reply.{Reply}
use Rattle.relay_core.specs.Runs.{world_after, lines_of}
use Rattle.relay_core.specs.Stands.{StandsFor}
use Rattle.relay_core.specs.World.{World}
use Rattle.relay_recorder.specs.Recording.{Recording, all_but_last}

-- an event and its reply
abbrev pub Exchange : Type 0
Exchange = Event × Reply

-- the events of a history, oldest first
abbrev pub events_of : List Exchange → List Event
events_of history = map (λ (told : Exchange). told.0) history

-- the replies of a history, oldest first
abbrev pub replies_of : List Exchange → List Reply
replies_of history = map (λ (told : Exchange). told.1) history

-- the replies of a run over the events, from a world
abbrev pub replies_from : World → List Event → List Reply
replies_from origin events = map (λ (line : Line). line.reply) (lines_of events origin)

-- Whether the recorder results from a history that starts at world `origin`. The replies are those
-- of the run over the events; the core is in the world after all events; the kept events are the
-- last ones, at most `capacity`; and the opening core is in the world before the kept events.
pub record StandsForHistory (r : Recording) (history : List Exchange)
    (origin : World) : Type 0 where
  pub legal : replies_of history ≡ replies_from origin (events_of history)
  pub core : StandsFor r.core (world_after (events_of history) origin)
  pub kept : r.events ≡ keep_last r.capacity (events_of history)
  pub opening : StandsFor r.opening
      (world_after (all_but_last r.capacity (events_of history)) origin)

-- whether there are a world and a history that the recorder results from
pub record HasHistory (r : Recording) : Type 0 where
  pub history : List Exchange
  pub origin : World
  pub stands : StandsForHistory r history origin

-- whether the recorder took an event and replied to it: each history that it resulted from, with
-- both appended, now results in it
pub record Continues (old new : Recording) (event : Event) (reply : Reply) : Type 0 where
  pub histories : (history : List Exchange) (origin : World) → StandsForHistory old history origin
      → StandsForHistory new (history ++ (event, reply) ∷ []) origin
