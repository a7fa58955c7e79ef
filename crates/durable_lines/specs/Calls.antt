-- What each call on a file or on its name does, and why the replacement of a file failed.
--     PlaceCall        a call on a name
--     CallsFile        what each call on a file does
--     IsSameFile       what all calls on a file leave as it is
--     HasFailedDraft   the draft of a replacement failed
--     HasFailedPart    the place of a replacement failed, or its draft
--     OverflowsDraft   an empty draft would exceed its limit with some bytes
use Rattle.std.specs.Prelude.{◌≡◌, ◌⊎◌, ◌↔◌, ℕ, List, [], IsErrOf, Result}
use Rattle.durable_lines.specs.CrashModel.{Follows, PassesTime, TornAppend}
use Rattle.durable_lines.specs.FileModel.{FileModel}
use Rattle.durable_lines.specs.declared.fault.FileFault.{FileFault}
use Rattle.durable_lines.specs.declared.fault.FileFault.TheVariants.{Failed}

-- a call on a name
pub data PlaceCall : Type 0 where
  CreateDraft : PlaceCall
  RenameDraft : PlaceCall
  SyncRename : PlaceCall

-- What each call on a file or on its name does, other than a renewal: what a crash leaves since an
-- earlier moment grows by what one after the call leaves. The file stays the same one. It has
-- failed if the call returns `Failed`, and only then; once it has, it stays so.
pub record CallsFile {F T : Type 0} (model : FileModel F) (old new : F)
    (result : Result T FileFault) : Type 0 where
  pub time : PassesTime model old new
  pub identity : model.identity new ≡ model.identity old
  pub failed : IsErrOf result Failed ↔ model.has_failed new
  pub remains_failed : model.has_failed old → model.has_failed new

-- Whether a file is the same one after some calls on it. It has failed if they returned `Failed`;
-- once it has, it stays so.
pub record IsSameFile {F T : Type 0} (model : FileModel F) (old new : F)
    (result : Result T FileFault) : Type 0 where
  pub identity : model.identity new ≡ model.identity old
  pub failed : IsErrOf result Failed → model.has_failed new
  pub remains_failed : model.has_failed old → model.has_failed new

-- Whether the draft of a replacement by these bytes failed: an empty file that had not failed has
-- failed, and meanwhile these bytes were appended to it, wholly, in part or not at all.
pub record HasFailedDraft {D : Type 0} (model : FileModel D) (bytes : List ℕ) : Type 0 where
  pub created : D
  pub empty : model.seen created ≡ []
  pub unfailed : model.has_failed created → ⊥
  pub draft : D
  pub appended : Follows (TornAppend bytes) (model.may_leave created) (model.may_leave draft)
  pub has_failed : model.has_failed draft

-- whether a replacement failed at the place, or at a draft that was to get such bytes
abbrev pub HasFailedPart : {P D : Type 0} → FileModel P → FileModel D
    → (Bytes : List ℕ → Type 0) → P → Type 0
HasFailedPart model draft_model Bytes place =
    model.has_failed place ⊎ ((bytes : List ℕ) × Bytes bytes × HasFailedDraft draft_model bytes)

-- whether an empty draft would exceed its limit with these bytes
abbrev pub OverflowsDraft : {D : Type 0} → FileModel D → List ℕ → Type 0
OverflowsDraft {D = D} model bytes =
    (draft : D) × (model.seen draft ≡ []) × model.overflows draft bytes
