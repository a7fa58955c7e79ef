-- A connection since it was admitted.
--     Remains         what its session has done, and what it has still to do
--     Lives           the bytes that it read and wrote are those of its session
--     IsServed        the connection with a key is open, and Lives holds for it
--     HasAnswered     all bytes that were read have been answered
--     ExtendsHistory  the history of a meter was extended
use Rattle.std.specs.Prelude.{◌≡◌, ◌++◌, ℕ, List, Some}
use Rattle.std.specs.List.{concat}
use Rattle.std.specs.Io.KnownBytes.{Appends}
use Rattle.slab.specs.Slab.{get}
use Rattle.relay_core.specs.World.{World}
use Rattle.relay_events.specs.declared.reply.Reply.{Reply}
use Rattle.relay_recorder.specs.Histories.{Exchange, StandsForHistory, events_of, replies_of}
use Rattle.session_core.specs.Backwards.{Asks, Answers, end_of}
use Rattle.embedded_meter.specs.Dialogues.{Dialogue, asks_ahead, sends_ahead, ends_ahead}
use Rattle.embedded_meter.specs.MeterStates.{MeterState}
use Rattle.fleet_links.specs.Streams.{StreamState}
use Rattle.fleet_meters.specs.Clients.{ClientState}
use Rattle.fleet_meters.specs.Fleets.{FleetState}
use Rattle.fleet_meters.specs.Places.{session_in}

-- Whether a session has asked these events and sent these frames, and the rest is still ahead of
-- it. For every input that begins with these bytes, a session with this password asks these events
-- first, and if they have these replies, it sends these frames first.
pub record Remains (password input : List ℕ) (told : List Exchange) (given : List (List ℕ))
    (d : Dialogue) : Type 0 where
  pub asks : (more : List ℕ)
      → Asks password (input ++ more) ≡ events_of told ++ asks_ahead d more
  pub sends : (more : List ℕ) (later : List Reply)
      → Answers password (input ++ more) (replies_of told ++ later)
      ≡ given ++ sends_ahead d more later
  pub ends : (more : List ℕ) → end_of (input ++ more) ≡ ends_ahead d more

-- Whether a connection has read the input of its session and written its frames. It was admitted
-- with the stream `origin`, and its meter has applied these events for it. The bytes that were read
-- since then are the input; the bytes that were written, followed by the pending ones, are the
-- frames, in order.
pub record Lives (password : List ℕ) (origin : StreamState) (told : List Exchange)
    (c : ClientState) (d : Dialogue) : Type 0 where
  pub input : List ℕ
  pub given : List (List ℕ)
  pub out : List ℕ
  pub remains : Remains password input told given d
  pub read : Appends origin.arrived c.stream.arrived input
  pub wrote : Appends origin.written c.stream.written out
  pub queue : concat given ≡ out ++ c.pending

-- whether the connection with this key is open, and `Lives` holds for it
pub record IsServed (password : List ℕ) (origin : StreamState) (told : List Exchange)
    (f : FleetState) (key : ℕ) : Type 0 where
  pub client : ClientState
  pub dialogue : Dialogue
  pub is : get f.clients key ≡ Some client
  pub session : session_in f.places client.place client.number ≡ Some dialogue
  pub lives : Lives password origin told client dialogue

-- whether all bytes that were read have been answered: the bytes that were written are the answers
-- of a session to them, and the events are those that it asks for
pub record HasAnswered (password : List ℕ) (origin : StreamState) (told : List Exchange)
    (stream : StreamState) : Type 0 where
  pub input : List ℕ
  pub read : Appends origin.arrived stream.arrived input
  pub asked : Asks password input ≡ events_of told
  pub wrote : Appends origin.written stream.written
      (concat (Answers password input (replies_of told)))

-- whether each history of the meter is extended by these events and replies
pub record ExtendsHistory (told : List Exchange) (old new : MeterState) : Type 0 where
  pub histories : (history : List Exchange) (origin : World)
      → StandsForHistory old.recorder history origin
      → StandsForHistory new.recorder (history ++ told) origin
  pub capacity : new.recorder.capacity ≡ old.recorder.capacity
