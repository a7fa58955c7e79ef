-- The view that contracts have of a file in memory.
--     bytes_of        the bytes that a read returns
--     moment_of       the number of changes and syncs so far
--     states_of       its state at each moment, the present one last
--     syncs_left      the number of syncs before one fails
--     HasFailed       a call has failed
use Rattle.std.specs.Prelude.{◌≡◌, ℕ, true, List, [], ◌∷◌, ◌++◌, length}
use Rattle.durable_lines.specs.FileState.{State, seen_of}
use Rattle.durable_lines.specs.declared.memory_file.MemoryFile.{MemoryFile}

-- the bytes that a read returns
abbrev pub bytes_of : MemoryFile → List ℕ
bytes_of m = seen_of m.state

-- the number of changes and syncs so far
abbrev pub moment_of : MemoryFile → ℕ
moment_of m = length m.past.items

-- the state at each moment, the present one last
abbrev pub states_of : MemoryFile → List State
states_of m = m.past.items ++ m.state ∷ []

-- the number of syncs before one fails
abbrev pub syncs_left : MemoryFile → ℕ
syncs_left m = m.syncs_left

-- whether a call has failed
abbrev pub HasFailed : MemoryFile → Type 0
HasFailed m = m.has_failed ≡ true
