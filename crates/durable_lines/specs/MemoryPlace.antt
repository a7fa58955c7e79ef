-- The view that contracts have of a place in memory.
--     MayBeLeft       what a crash may leave under the name
--     file_after      the file that has the name after a crash
--     name_of         the state of the file that has the name now
--     moment_of       the number of changes and syncs so far
--     states_of       its state at each moment, the present one last
use Rattle.std.specs.Prelude.{◌⊎◌, ℕ, Bool, List, [], ◌∷◌, ◌++◌, IsSomeAnd, if◌then◌else◌, length}
use Rattle.std.specs.Prelude.{unwrap_or}
use Rattle.durable_lines.specs.FileState.{State, IsLeft}
use Rattle.durable_lines.specs.declared.memory_place.MemoryPlace.{MemoryPlace}
use Rattle.durable_lines.specs.declared.memory_place.PlaceState.{PlaceState}

-- whether a crash may leave these bytes under the name: those of the file that has it now, or of
-- the one before if the rename is not on the disk
abbrev pub MayBeLeft : PlaceState → List ℕ → Type 0
MayBeLeft s c = IsLeft s.current c ⊎ IsSomeAnd s.previous (λ file. IsLeft file c)

-- the file that has the name after a crash: the one that had it, if there is one and the rename is
-- not on the disk
abbrev pub file_after : Bool → PlaceState → State
file_after is_renamed s = if is_renamed then s.current else unwrap_or s.previous s.current

-- the state of the file that has the name now
abbrev pub name_of : MemoryPlace → State
name_of p = p.state.current

-- the number of changes and syncs so far
abbrev pub moment_of : MemoryPlace → ℕ
moment_of p = length p.past.items

-- the state at each moment, the present one last
abbrev pub states_of : MemoryPlace → List PlaceState
states_of p = p.past.items ++ p.state ∷ []
