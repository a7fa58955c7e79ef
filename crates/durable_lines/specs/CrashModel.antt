-- What a crash may leave of a file.
--
-- A crash is the end of the process or of the machine at any moment. The file system keeps a file's
-- length and its bytes. A sync (fdatasync) waits until both are on the disk. An append that was not
-- synced leaves, from the old end on, a front of its bytes in which some bytes may be 0: the new
-- length may reach the disk before the bytes, and a block that was never written reads as 0. A cut
-- that was not synced leaves a length between the new and the old one. Bytes that were synced stay.
-- A rename over an existing name is whole: until the folder is synced, a crash leaves the old file
-- or the new one under that name.
--
-- Covered: a killed process, whose file has a front of the append; a crash of the machine on ext4
-- with data=ordered or data=journal, on XFS and on btrfs, as they are documented: they never show
-- stale bytes after the old end of a file.
-- Not covered: ext4 with data=writeback and FAT, which may show stale bytes there; a disk that
-- damages bytes already written while it writes others, or that reports a sync before its cache is
-- written.
--
--     IsTorn          what an append may leave of its bytes
--     TornAppend      a file, and what a crash leaves of it after an append
--     TornCut         a file, and what a crash leaves of it after a cut
--     Follows         each new outcome is an old outcome after a step
--     Narrows         each new outcome is an old one
--     HasOneOutcome     the one possible outcome
--     Elapses         the outcomes since each earlier moment, from before a call to after it
--     PassesTime      the same for two values of a file
--     LeavesOnly      a fact of each outcome since a moment
use Rattle.std.specs.Prelude.{◌≡◌, ◌⊎◌, ◌≤◌, ℕ, List, [], ◌∷◌, ◌++◌, take, ⊤}
use Rattle.durable_lines.specs.FileModel.{FileModel}

-- Whether an append may leave this of its bytes: each byte is itself, or 0, or is missing with all
-- bytes after it.
abbrev pub IsTorn : List ℕ → List ℕ → Type 0
IsTorn bytes [] = ⊤
IsTorn [] (left ∷ rest) = ⊥
IsTorn (byte ∷ bytes) (left ∷ rest) = ((left ≡ byte) ⊎ (left ≡ 0)) × IsTorn bytes rest

-- whether a crash after an append to `old` may leave `new`: `old` and a torn copy of the appended
-- bytes
abbrev pub TornAppend : List ℕ → List ℕ → List ℕ → Type 0
TornAppend bytes old new = (left : List ℕ) × IsTorn bytes left × (new ≡ old ++ left)

-- whether a crash after a cut of `old` to a length may leave `new`: a front of `old` that is no
-- shorter than this length
abbrev pub TornCut : ℕ → List ℕ → List ℕ → Type 0
TornCut len old new = (kept : ℕ) × (len ≤ kept) × (new ≡ take kept old)

-- whether each new outcome is an old outcome after a step
abbrev pub Follows : (List ℕ → List ℕ → Type 0) → (List ℕ → Type 0) → (List ℕ → Type 0) → Type 0
Follows step old new = (c : List ℕ) → new c → (from : List ℕ) × old from × step from c

-- whether each new outcome is an old one
abbrev pub Narrows : (List ℕ → Type 0) → (List ℕ → Type 0) → Type 0
Narrows old new = (c : List ℕ) → new c → old c

-- whether a crash leaves these bytes and no others
abbrev pub HasOneOutcome : List ℕ → (List ℕ → Type 0) → Type 0
HasOneOutcome bytes outcomes = (c : List ℕ) → outcomes c → c ≡ bytes

-- Whether a call adds to the outcomes of a crash since an earlier moment only those of a crash
-- after the call. The outcomes from before the call remain, and the moment does not fall.
pub record Elapses (before now : ℕ) (past since : ℕ → List ℕ → Type 0)
    (may_leave : List ℕ → Type 0) : Type 0 where
  pub later : before ≤ now
  pub nothing_else : (t : ℕ) (c : List ℕ) → t ≤ before → since t c → past t c ⊎ may_leave c
  pub keeps : (t : ℕ) (c : List ℕ) → t ≤ before → past t c → since t c

-- whether a call that leaves `new` of the file `old` adds only the outcomes of a crash after it
abbrev pub PassesTime : {F : Type 0} → FileModel F → (old new : F) → Type 0
PassesTime model old new = Elapses (model.moment old) (model.moment new) (model.left_since old)
    (model.left_since new) (model.may_leave new)

-- Whether P holds for all bytes that a crash at any moment from `old` to `new` leaves. It also
-- holds for those of a crash since an earlier moment, unless the crash was before `old`.
pub record LeavesOnly {F : Type 0} (model : FileModel F) (old new : F) (P : List ℕ → Type 0)
    : Type 0 where
  pub later : model.moment old ≤ model.moment new
  pub each : (c : List ℕ) → model.left_since new (model.moment old) c → P c
  pub before : (t : ℕ) (c : List ℕ) → t ≤ model.moment old → model.left_since new t c
      → model.left_since old t c ⊎ P c
