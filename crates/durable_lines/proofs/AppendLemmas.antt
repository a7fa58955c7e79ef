-- What a crash during an append to a settled file leaves: the old lines and a front of the new.
use Rattle.std.proofs.Common.{ℕ, List, sym, subst}
use Rattle.durable_lines.specs.CrashModel.{Follows, LeavesOnly, Narrows, PassesTime, TornAppend}
use Rattle.durable_lines.specs.FileModel.{FileModel}
use Rattle.durable_lines.specs.Lines.{lines_in, IsBetween, IsSettled}
use Rattle.durable_lines.proofs.Moments.{one_call, then_call}
use Rattle.durable_lines.proofs.TornLemmas.{torn_append, none_added}

module _ {F : Type 0} (model : FileModel F) (old : F) (text : List ℕ)
    (settled : IsSettled model old) where
  -- the lines that a crash may leave
  abbrev FrontLines : List ℕ → Type 0
  FrontLines c = IsBetween (lines_in (model.seen old)) (lines_in text) (lines_in c)

  before_append : (c : List ℕ) → model.may_leave old c → FrontLines c
  before_append c now = subst FrontLines (sym (settled.durable c now))
      (none_added (lines_in (model.seen old)) (lines_in text))

  module _ (appended : F) (time : PassesTime model old appended)
      (crash : Follows (TornAppend text) (model.may_leave old) (model.may_leave appended)) where
    append_leaves : (c : List ℕ) → model.may_leave appended c → FrontLines c
    append_leaves c now =
        let from = crash c now in
        torn_append (model.seen old) text c settled.text
        (subst (λ d. TornAppend text d c) (settled.durable from.0 from.1) from.2)

    pub after_append : LeavesOnly model old appended FrontLines
    after_append = one_call model old appended FrontLines before_append time append_leaves

    pub after_sync : (synced : F) → PassesTime model appended synced
        → Narrows (model.may_leave appended) (model.may_leave synced)
        → LeavesOnly model old synced FrontLines
    after_sync synced sync_time narrows = then_call model old appended synced FrontLines
        after_append sync_time (λ c now. append_leaves c (narrows c now))
