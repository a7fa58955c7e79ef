-- What is known of a stream, and what its reads and writes do.
--     StreamState     its bytes, and whether it blocked or ended
--     ReadBy          a read
--     WrittenBy       a write
use Rattle.std.specs.Prelude.{◌≡◌, ◌≢◌, ◌<◌, ◌≤◌, ℕ, List, [], Option, length, take}
use Rattle.std.specs.Io.KnownBytes.{Appends}
use Rattle.fleet_links.specs.declared.stream.Received.{Received}
use Rattle.fleet_links.specs.declared.stream.Received.TheVariants as received
use Rattle.fleet_links.specs.declared.stream.Sent.{Sent}
use Rattle.fleet_links.specs.declared.stream.Sent.TheVariants as sent

-- A stream: the bytes that were read and written so far, if they are known; a number that changes
-- with each call that blocks; and one that changes with each read that ends and each failed write.
pub record StreamState : Type 0 where
  pub arrived : Option (List ℕ)
  pub written : Option (List ℕ)
  pub blocks : ℕ
  pub ends : ℕ

-- whether these bytes were read and these written, and the stream neither blocked nor ended
pub record Moves (old : StreamState) (came went : List ℕ) (new : StreamState) : Type 0 where
  pub read : Appends old.arrived new.arrived came
  pub wrote : Appends old.written new.written went
  pub blocks : new.blocks ≡ old.blocks
  pub ends : new.ends ≡ old.ends

-- whether the stream blocked, and no byte was read or written
pub record Blocks (old new : StreamState) : Type 0 where
  pub read : Appends old.arrived new.arrived []
  pub wrote : Appends old.written new.written []
  pub blocks : new.blocks ≢ old.blocks

-- whether the stream ended, and no byte was read or written
pub record Stops (old new : StreamState) : Type 0 where
  pub read : Appends old.arrived new.arrived []
  pub wrote : Appends old.written new.written []
  pub ends : new.ends ≢ old.ends

-- whether a count is at least 1, and at most the bytes of the buffer
abbrev pub IsCount : ℕ → List ℕ → Type 0
IsCount count bytes = (0 < count) × (count ≤ length bytes)

-- whether a read into this buffer had this result
abbrev pub ReadBy : StreamState → List ℕ → Received → StreamState → Type 0
ReadBy old buffer (received.Bytes count) new = IsCount count buffer
    × Moves old (take count buffer) [] new
ReadBy old buffer received.Blocked new = Blocks old new
ReadBy old buffer received.Ended new = Stops old new

-- whether a write of these bytes had this result
abbrev pub WrittenBy : StreamState → List ℕ → Sent → StreamState → Type 0
WrittenBy old bytes (sent.Bytes count) new = IsCount count bytes
    × Moves old [] (take count bytes) new
WrittenBy old bytes sent.Blocked new = Blocks old new
WrittenBy old bytes sent.Failed new = Stops old new
