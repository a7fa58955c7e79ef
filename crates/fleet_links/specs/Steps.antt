-- The steps of a turn.
--     WritesBy     pending bytes are written
--     QueuesBy     a frame becomes pending
--     FeedsBy      bytes are read and fed
use Rattle.std.specs.Prelude.{◌≡◌, ◌<◌, ◌++◌, ℕ, List, [], length}
use Rattle.embedded_meter.specs.Calls.{FeedsAt}
use Rattle.embedded_meter.specs.MeterStates.{MeterState}
use Rattle.fleet_links.specs.Streams.{StreamState, Moves, Blocks, Stops}
use Rattle.fleet_links.specs.declared.link.LinkEnd.TheVariants.{Closed, Ended, TooLong, Memory}
use Rattle.fleet_links.specs.declared.link.Turn.{Turn}
use Rattle.fleet_links.specs.declared.link.Turn.TheVariants.{Waits, Again, Over}

-- whether the first of the pending bytes, at least one, were written, and the others remain pending
pub record Writes (old : StreamState) (pending : List ℕ) (new : StreamState) (pending' : List ℕ)
    : Type 0 where
  pub out : List ℕ
  pub some : 0 < length out
  pub split : pending ≡ out ++ pending'
  pub moves : Moves old [] out new

-- whether a write of the pending bytes had this result: some were written, the stream blocked, or
-- it ended
abbrev pub WritesBy : StreamState → List ℕ → Turn → StreamState → List ℕ → Type 0
WritesBy old pending Again new pending' = Writes old pending new pending'
WritesBy old pending Waits new pending' = Blocks old new × (pending' ≡ pending)
WritesBy old pending (Over Closed) new pending' = Stops old new × (pending' ≡ pending)
WritesBy old pending (Over (Ended end)) new pending' = ⊥
WritesBy old pending (Over TooLong) new pending' = ⊥
WritesBy old pending (Over Memory) new pending' = ⊥

-- whether appending a frame to the pending bytes had this result: it is pending, or out of memory
abbrev pub QueuesBy : List ℕ → List ℕ → Turn → List ℕ → Type 0
QueuesBy pending frame Again pending' = pending' ≡ pending ++ frame
QueuesBy pending frame Waits pending' = ⊥
QueuesBy pending frame (Over Closed) pending' = ⊥
QueuesBy pending frame (Over (Ended end)) pending' = ⊥
QueuesBy pending frame (Over TooLong) pending' = ⊥
QueuesBy pending frame (Over Memory) pending' = pending' ≡ pending

-- whether at least one byte was read, and the bytes read were fed to the session with this number
pub record FeedsBytes (number : ℕ) (m : MeterState) (old : StreamState) (m' : MeterState)
    (new : StreamState) : Type 0 where
  pub bytes : List ℕ
  pub some : 0 < length bytes
  pub moves : Moves old bytes [] new
  pub feeds : FeedsAt m number bytes m'

-- whether bytes were read, and lost
pub record LosesBytes (old new : StreamState) : Type 0 where
  pub bytes : List ℕ
  pub moves : Moves old bytes [] new

-- whether a read had this result: its bytes were fed to the session, the stream blocked or ended,
-- or out of memory the bytes are lost
abbrev pub FeedsBy : ℕ → MeterState → StreamState → Turn → MeterState → StreamState → Type 0
FeedsBy number m old Again m' new = FeedsBytes number m old m' new
FeedsBy number m old Waits m' new = (m' ≡ m) × Blocks old new
FeedsBy number m old (Over Closed) m' new = (m' ≡ m) × Stops old new
FeedsBy number m old (Over (Ended end)) m' new = ⊥
FeedsBy number m old (Over TooLong) m' new = ⊥
FeedsBy number m old (Over Memory) m' new = (m' ≡ m) × LosesBytes old new
