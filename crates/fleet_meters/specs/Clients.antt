-- A connection of a fleet.
--     ClientState     its meter, its session, its stream, and its pending bytes
--     ClientTurns     one turn of it
use Rattle.std.specs.Prelude.{◌≡◌, ℕ, List}
use Rattle.embedded_meter.specs.MeterStates.{MeterState}
use Rattle.fleet_links.specs.Streams.{StreamState}
use Rattle.fleet_links.specs.Turns.{Turns, LinkState, max_steps}
use Rattle.fleet_links.specs.declared.link.Turn.{Turn}

-- a connection: the place of its meter in the fleet, the number of its session, its stream, and its
-- pending bytes
pub record ClientState : Type 0 where
  pub place : ℕ
  pub number : ℕ
  pub stream : StreamState
  pub pending : List ℕ

-- a connection with its meter
abbrev pub link_of : MeterState → ClientState → LinkState
link_of m c = record { meter = m; stream = c.stream; pending = c.pending }

-- whether a turn of a connection with its meter had this result, and the place of the meter and the
-- number of the session are unchanged
pub record ClientTurns (room : ℕ) (m : MeterState) (old : ClientState) (turn : Turn)
    (m' : MeterState) (new : ClientState) : Type 0 where
  pub place : new.place ≡ old.place
  pub number : new.number ≡ old.number
  pub turns : Turns old.number max_steps room (link_of m old) turn (link_of m' new)
