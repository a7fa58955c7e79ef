-- What is known after a sync.
use Rattle.std.proofs.Common.{◌≡◌, Result, Ok, Err, OnOk, sym, subst}
use Rattle.durable_lines.specs.CrashModel.{HasOneOutcome}
use Rattle.durable_lines.specs.FileModel.{FileModel}
use Rattle.durable_lines.specs.Lines.{IsReady, IsSettled, IsText}

module _ {F : Type 0} (model : FileModel F) where
  -- a sync settles a text
  pub settle : (old new : F) → IsText (model.seen old) → model.seen new ≡ model.seen old
      → HasOneOutcome (model.seen old) (model.may_leave new)
      → model.stored (model.identity new) (model.seen old) → IsSettled model new
  settle old new text same only kept = record {
    text = subst IsText (sym same) text;
    durable = subst (λ bytes. HasOneOutcome bytes (model.may_leave new)) (sym same) only;
    kept = subst (model.stored (model.identity new)) (sym same) kept;
  }

  -- the same for a sync whose result is returned
  pub settle_on_ok : {T E : Type 0} (r : Result T E) (old new : F)
      → (model.acts → IsText (model.seen old)) → OnOk r (model.seen new ≡ model.seen old)
      → OnOk r (HasOneOutcome (model.seen old) (model.may_leave new))
      → OnOk r (model.acts → model.stored (model.identity new) (model.seen old))
      → OnOk r (IsReady model new)
  settle_on_ok (Ok value) old new text same only kept =
      λ a. settle old new (text a) same only (kept a)
  settle_on_ok (Err error) old new text same only kept = same
