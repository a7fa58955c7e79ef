-- What a recorder's exported trace replays.
use Rattle.std.specs.Prelude.{◌≡◌, ◌-◌, List, length, drop}
use Rattle.relay_core.specs.Runs.{lines_of}
use Rattle.relay_core.specs.World.{World}
use Rattle.relay_recorder.specs.Histories.{Exchange, StandsForHistory, events_of, replies_of, replies_from}
use Rattle.relay_recorder.specs.Recording.{Recording}

-- whether the kept events, run from `world`, give the last lines of the history's run and the
-- history's last replies
pub record RunsAgain (r : Recording) (history : List Exchange) (origin world : World) : Type 0 where
  pub lines : lines_of r.events world
      ≡ drop (length history - length r.events) (lines_of (events_of history) origin)
  pub replies : replies_from world r.events
      ≡ drop (length history - length r.events) (replies_of history)

-- whether the kept events, run from `world`, run as they did in every history that the recorder
-- results from
abbrev pub Replays : Recording → World → Type 0
Replays r world = (history : List Exchange) (origin : World) → StandsForHistory r history origin
    → RunsAgain r history origin world
