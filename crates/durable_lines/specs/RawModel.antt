-- What contracts say of the raw files of a type, all in one value.
--     RawModel     what the raw files of a type are, and what a crash may leave of them
--     raw_bytes    the bytes that a read returns
--     LeftOfRaw    what a crash at this moment may leave
--     IsAtEnd      the next read or write is at the end of the file
--     AppendsFront an append of a front of bytes
--     CallsRaw     what each call on a raw file does
use Rattle.std.specs.Prelude.{◌≡◌, ◌≤◌, ℕ, List, length}
use Rattle.durable_lines.specs.CrashModel.{Elapses}
use Rattle.durable_lines.specs.FileState.{State, seen_of}
use Rattle.durable_lines.specs.RawFile.{HasFront, LeftNow}

-- What the raw files of a type are, and what a crash may leave of them.
pub record RawModel (R : Type 0) : Type 1 where
  -- files of this type act as the crash model says
  pub acts : Type 0
  -- which file it is, a number that no call changes
  pub identity : R → ℕ
  -- the bytes of the last sync, and the cuts and appends after it
  pub state : R → State
  -- the place of the next read or write, in bytes from the first
  pub place : R → ℕ
  -- the moment, a number that never falls
  pub moment : R → ℕ
  -- what a crash at this moment, or at any since an earlier one, may have left
  pub left_since : R → ℕ → List ℕ → Type 0
  -- a sync of the file with this number has returned while it had these bytes
  pub stored : ℕ → List ℕ → Type 0
  -- this value has locked the file
  pub is_locked : R → Type 0
  -- a read returns what is on the disk, also if a sync of an earlier process failed
  pub reads_disk : R → Type 0
  -- a call has returned an error, or a write has written nothing
  pub has_failed : R → Type 0
  -- a law: no more bytes of the last sync are left than it had
  pub is_within : (raw : R) → (state raw).kept ≤ length (state raw).synced
  -- a law: this moment is one of those since an earlier one
  pub counts_now : (raw : R) (t : ℕ) (c : List ℕ) → t ≤ moment raw → LeftNow acts (state raw) c
      → left_since raw t c
  -- a law: since this moment there is no other
  pub only_now : (raw : R) (c : List ℕ) → left_since raw (moment raw) c → LeftNow acts (state raw) c

-- the bytes that a read returns
abbrev pub raw_bytes : {R : Type 0} → RawModel R → R → List ℕ
raw_bytes model raw = seen_of (model.state raw)

-- whether a crash at this moment may leave these bytes
abbrev pub LeftOfRaw : {R : Type 0} → RawModel R → R → List ℕ → Type 0
LeftOfRaw model raw c = LeftNow model.acts (model.state raw) c

-- whether the next read or write is at the end of the file
abbrev pub IsAtEnd : {R : Type 0} → RawModel R → R → Type 0
IsAtEnd model raw = model.place raw ≡ length (raw_bytes model raw)

-- whether a front of these bytes was appended, if files of this type act as the crash model says
abbrev pub AppendsFront : {R : Type 0} → RawModel R → (bytes : List ℕ) → (old new : R) → Type 0
AppendsFront model bytes old new =
    model.acts → HasFront bytes (model.state old) (model.state new)

-- What each call on a raw file does: what a crash leaves since an earlier moment grows by what one
-- after the call leaves. The file stays the same one. It has failed if the call fails; once it has,
-- it stays so.
pub record CallsRaw {R : Type 0} (model : RawModel R) (old new : R) (fails : Type 0) : Type 0 where
  pub time : Elapses (model.moment old) (model.moment new) (model.left_since old)
      (model.left_since new) (LeftOfRaw model new)
  pub identity : model.identity new ≡ model.identity old
  pub failed : fails → model.has_failed new
  pub remains_failed : model.has_failed old → model.has_failed new
