-- One turn of a connection.
--     LinkState     a connection with its meter
--     Turns         a turn, and why it stopped
use Rattle.std.specs.Prelude.{◌≡◌, ◌≢◌, ◌<◌, ◌≤◌, ◌+◌, ◌++◌, ℕ, List, [], IfSome, ⊤, length}
use Rattle.std.specs.List.{concat}
use Rattle.std.specs.Io.KnownBytes.{Appends}
use Rattle.embedded_meter.specs.Dialogues.{Dialogue}
use Rattle.embedded_meter.specs.MeterStates.{MeterState, dialogue_at}
use Rattle.embedded_meter.specs.Progress.{IsIdle, IsOver}
use Rattle.embedded_meter.specs.declared.pending.Pending.TheVariants.{Due}
use Rattle.fleet_links.specs.Serving.{Serves}
use Rattle.fleet_links.specs.Streams.{StreamState}
use Rattle.fleet_links.specs.declared.link.LinkEnd.TheVariants.{Closed, Ended, TooLong, Memory}
use Rattle.fleet_links.specs.declared.link.Turn.{Turn}
use Rattle.fleet_links.specs.declared.link.Turn.TheVariants.{Waits, Again, Over}

-- a connection: its meter, its stream, and the bytes that are still to be written
pub record LinkState : Type 0 where
  pub meter : MeterState
  pub stream : StreamState
  pub pending : List ℕ

-- the maximum number of steps in a turn
abbrev pub max_steps : ℕ
max_steps = 1024

-- whether the session must send a frame that is longer than the buffer for it
pub record NeedsRoom (room : ℕ) (d : Dialogue) : Type 0 where
  pub frame : List ℕ
  pub due : d.pending ≡ Due frame
  pub longer : room < length frame

-- whether a turn lost no bytes: all bytes read were fed, and each frame taken is sent or pending,
-- unless memory ran out
abbrev pub LosesBy : Turn → List ℕ → List ℕ → Type 0
LosesBy Waits unfed lost = (unfed ≡ []) × (lost ≡ [])
LosesBy Again unfed lost = (unfed ≡ []) × (lost ≡ [])
LosesBy (Over Closed) unfed lost = (unfed ≡ []) × (lost ≡ [])
LosesBy (Over (Ended end)) unfed lost = (unfed ≡ []) × (lost ≡ [])
LosesBy (Over TooLong) unfed lost = (unfed ≡ []) × (lost ≡ [])
LosesBy (Over Memory) unfed lost = ⊤

-- whether a turn of this session stopped for this reason, after `moved` bytes and frames were
-- moved: the stream blocked, and if nothing is pending, the session owes nothing; at least `least`
-- bytes and frames were moved; the stream ended; the session is over and everything was written; a
-- frame is longer than `room`; or memory ran out
abbrev pub StopsBy : ℕ → ℕ → ℕ → LinkState → ℕ → Turn → LinkState → Type 0
StopsBy number least room old moved Waits new =
    (new.stream.blocks ≢ old.stream.blocks)
    × (new.pending ≡ [] → IfSome (dialogue_at new.meter number) IsIdle)
StopsBy number least room old moved Again new =
    (least ≤ moved) × (new.stream.blocks ≡ old.stream.blocks)
    × (new.stream.ends ≡ old.stream.ends)
StopsBy number least room old moved (Over Closed) new = new.stream.ends ≢ old.stream.ends
StopsBy number least room old moved (Over (Ended end)) new =
    (new.pending ≡ []) × IfSome (dialogue_at new.meter number) (IsOver end)
StopsBy number least room old moved (Over TooLong) new =
    IfSome (dialogue_at new.meter number) (NeedsRoom room)
StopsBy number least room old moved (Over Memory) new = ⊤

-- Whether a turn of the session with this number had this result. The session was fed the bytes
-- that were read, in order; the bytes that were written are the pending ones followed by the frames
-- that the session gave, in order, and the rest is pending.
pub record Turns (number least room : ℕ) (old : LinkState) (turn : Turn) (new : LinkState)
    : Type 0 where
  pub input : List ℕ
  pub unfed : List ℕ
  pub given : List (List ℕ)
  pub out : List ℕ
  pub lost : List ℕ
  pub serves : Serves number old.meter input given new.meter
  pub read : Appends old.stream.arrived new.stream.arrived (input ++ unfed)
  pub wrote : Appends old.stream.written new.stream.written out
  pub queue : old.pending ++ concat given ≡ out ++ (new.pending ++ lost)
  pub loses : LosesBy turn unfed lost
  pub stops : StopsBy number least room old (length input + length given + length out) turn new
