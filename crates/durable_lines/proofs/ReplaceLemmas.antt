-- What a replacement leaves: a draft is created, written and synced, and gets the name.
use Rattle.std.proofs.Common.{◌≡◌, ◌⊎◌, inl, inr, ⊎_elim, ℕ, List, [], ◌++◌, Result, Ok, Err, OnOk}
use Rattle.std.proofs.Common.{sym, ◌∙◌, ap, subst}
use Rattle.durable_lines.specs.CrashModel.{HasOneOutcome, LeavesOnly, Narrows, PassesTime}
use Rattle.durable_lines.specs.FileModel.{FileModel}
use Rattle.durable_lines.specs.Lines.{IsReady, IsText}
use Rattle.durable_lines.proofs.Moments.{one_call, then_call}

-- an empty draft has the bytes that are appended to it
pub draft_bytes : (empty appended bytes : List ℕ) → empty ≡ [] → appended ≡ empty ++ bytes
    → appended ≡ bytes
draft_bytes empty appended bytes none written = written ∙ ap (λ bs. bs ++ bytes) none

-- a crash leaves these bytes of a draft that was synced
pub draft_outcome : (empty appended bytes : List ℕ) (draft : List ℕ → Type 0) → empty ≡ []
    → appended ≡ empty ++ bytes → HasOneOutcome appended draft → HasOneOutcome bytes draft
draft_outcome empty appended bytes draft none written only c left =
    only c left ∙ draft_bytes empty appended bytes none written

module _ {F : Type 0} (model : FileModel F) (old : F) (bytes : List ℕ) (created : F)
    (time : PassesTime model old created)
    (narrows : Narrows (model.may_leave old) (model.may_leave created)) where
  -- what a crash may leave: what it could before, or the new bytes
  abbrev OldOrNew : List ℕ → Type 0
  OldOrNew c = model.may_leave old c ⊎ (c ≡ bytes)

  -- the draft is created
  pub after_create : LeavesOnly model old created OldOrNew
  after_create =
      one_call model old created OldOrNew (λ c now. inl now) time (λ c now. inl (narrows c now))

  module _ (renamed : F) (draft : List ℕ → Type 0) (rename_time : PassesTime model created renamed)
      (only : HasOneOutcome bytes draft) (renames : (c : List ℕ) → model.may_leave renamed c
      → model.may_leave created c ⊎ draft c) where
    -- a crash after the rename leaves the old file or the draft
    old_or_draft : (c : List ℕ) → model.may_leave renamed c → OldOrNew c
    old_or_draft c now =
        ⊎_elim (λ was. inl (narrows c was)) (λ new. inr (only c new)) (renames c now)

    -- the draft gets the name
    pub after_rename : LeavesOnly model old renamed OldOrNew
    after_rename =
        then_call model old created renamed OldOrNew after_create rename_time old_or_draft

    -- the folder is synced
    pub after_folder : (synced : F) → PassesTime model renamed synced
        → Narrows (model.may_leave renamed) (model.may_leave synced)
        → LeavesOnly model old synced OldOrNew
    after_folder synced sync_time syncs =
        then_call model old renamed synced OldOrNew after_rename sync_time
        (λ c now. old_or_draft c (syncs c now))

-- the sync of the folder settles a text
pub settle_named : {F T E : Type 0} (model : FileModel F) (r : Result T E) (renamed synced : F)
    (bytes : List ℕ) → (model.acts → model.seen renamed ≡ bytes)
    → (model.acts → model.stored (model.identity synced) bytes)
    → OnOk r (model.seen synced ≡ model.seen renamed)
    → OnOk r (model.acts → HasOneOutcome bytes (model.may_leave synced))
    → OnOk r (IsText bytes → IsReady model synced)
settle_named model (Ok value) renamed synced bytes named kept same only = λ text a.
    let is = sym (same ∙ named a) in record {
      text = subst IsText is text;
      durable = subst (λ bs. HasOneOutcome bs (model.may_leave synced)) is (only a);
      kept = subst (model.stored (model.identity synced)) is (kept a);
    }
settle_named model (Err error) renamed synced bytes named kept same only = same
