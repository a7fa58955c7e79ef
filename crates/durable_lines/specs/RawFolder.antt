-- The calls that change the names of a folder.
--     FolderCall     a call that changes a name, or syncs the folder
--     IsElsewhere    a call after which a name has the file that it had
--     LeavesName     calls after each of which a name has the file that it had
--     CreatesName    calls of which the last creates the file of a name, and the others leave all
--                    other names their files
--     GivesName      calls after each of which a name has the file that it had, but for the last,
--                    which gives it the file of another name
use Rattle.std.specs.Prelude.{◌≡◌, ◌≢◌, List, [], ◌∷◌, ◌++◌, ℕ, ⊤}
use Rattle.std.specs.List.{AllByRecursion}

-- a call that was made on the names of a folder, or on the folder
pub data FolderCall : Type 0 where
  Create : (name : List ℕ) → FolderCall
  Remove : (name : List ℕ) → FolderCall
  Rename : (from to : List ℕ) → FolderCall
  Link : (from to : List ℕ) → FolderCall
  SyncFolder : FolderCall

-- whether a name has the file after a call that it had before
abbrev pub IsElsewhere : (name : List ℕ) → FolderCall → Type 0
IsElsewhere name (Create created) = name ≢ created
IsElsewhere name (Remove removed) = name ≢ removed
IsElsewhere name (Rename from to) = (name ≢ from) × (name ≢ to)
IsElsewhere name (Link from to) = name ≢ to
IsElsewhere name SyncFolder = ⊤

-- whether further calls were made, after each of which a name has the file that it had
abbrev pub LeavesName : (name : List ℕ) → (old new : List FolderCall) → Type 0
LeavesName name old new =
    (calls : List FolderCall) × (new ≡ old ++ calls) × AllByRecursion (IsElsewhere name) calls

-- whether the last call created the file of a name, and no call changed the file of another one
abbrev pub CreatesName : (name : List ℕ) → (old new : List FolderCall) → Type 0
CreatesName name old new = (before : List FolderCall)
    × ((other : List ℕ) → other ≢ name → LeavesName other old before)
    × (new ≡ before ++ Create name ∷ [])

-- whether a name had its file until the last call, which gave it the file of a draft
abbrev pub GivesName : (name draft : List ℕ) → (old new : List FolderCall) → Type 0
GivesName name draft old new = (before : List FolderCall) × LeavesName name old before
    × (new ≡ before ++ Rename draft name ∷ [])
