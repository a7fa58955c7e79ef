-- A session of a meter over several calls.
--     Progresses     bytes arrived, the meter applied events, frames were taken
--     Serves         Progresses, of one session of a meter; its other sessions are unchanged
use Rattle.std.specs.Prelude.{◌≡◌, ◌++◌, ℕ, List, Some}
use Rattle.relay_core.specs.World.{World}
use Rattle.relay_events.specs.declared.reply.Reply.{Reply}
use Rattle.relay_recorder.specs.Histories.{Exchange, StandsForHistory, events_of, replies_of}
use Rattle.relay_recorder.specs.Recording.{Recording}
use Rattle.embedded_meter.specs.Dialogues.{Dialogue, asks_ahead, sends_ahead, ends_ahead}
use Rattle.embedded_meter.specs.MeterStates.{MeterState, OthersStay, dialogue_at}

-- Whether a session progressed with this input. The meter applied the first of the events that
-- remain for it, in order, each once and with the reply that its history determines. The frames
-- taken are the first of those that remain for the input and these replies. Everything else still
-- remains to be done.
pub record Progresses (old : Dialogue) (r : Recording) (input : List ℕ) (given : List (List ℕ))
    (new : Dialogue) (r' : Recording) : Type 0 where
  pub told : List Exchange
  pub histories : (history : List Exchange) (origin : World) → StandsForHistory r history origin
      → StandsForHistory r' (history ++ told) origin
  pub capacity : r'.capacity ≡ r.capacity
  pub asks : (more : List ℕ)
      → asks_ahead old (input ++ more) ≡ events_of told ++ asks_ahead new more
  pub sends : (more : List ℕ) (later : List Reply)
      → sends_ahead old (input ++ more) (replies_of told ++ later)
      ≡ given ++ sends_ahead new more later
  pub ends : (more : List ℕ) → ends_ahead old (input ++ more) ≡ ends_ahead new more

-- whether the session with this number progressed, and the others are unchanged
pub record Serves (number : ℕ) (old : MeterState) (input : List ℕ) (given : List (List ℕ))
    (new : MeterState) : Type 0 where
  pub before : Dialogue
  pub after : Dialogue
  pub was : dialogue_at old number ≡ Some before
  pub is : dialogue_at new number ≡ Some after
  pub went : Progresses before old.recorder input given after new.recorder
  pub stay : OthersStay old number new
