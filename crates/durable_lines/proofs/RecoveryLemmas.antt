-- What a crash during a recovery leaves: the file is synced, read, cut after its lines and synced.
use Rattle.std.proofs.Common.{◌≡◌, ◌⊎◌, inl, inr, ℕ, List, length, take, sym, ◌∙◌, ap, subst}
use Rattle.durable_lines.specs.CrashModel.{Follows, LeavesOnly, Narrows, HasOneOutcome, PassesTime}
use Rattle.durable_lines.specs.CrashModel.{TornCut}
use Rattle.durable_lines.specs.FileModel.{FileModel}
use Rattle.durable_lines.specs.Lines.{lines_in, text_of, IsText}
use Rattle.durable_lines.proofs.LineLemmas.{lines_in-same, take-text}
use Rattle.durable_lines.proofs.Moments.{one_call, then_call}
use Rattle.durable_lines.proofs.TornLemmas.{torn_cut}

-- the text of the lines of bytes is a text
pub lines_text : (bytes : List ℕ) → IsText (text_of (lines_in bytes))
lines_text bytes = ap text_of (sym (lines_in-same bytes))

-- bytes that are cut after their lines are the text of the lines
pub cut_bytes : (len : ℕ) (bytes : List ℕ) → len ≡ length (text_of (lines_in bytes))
    → take len bytes ≡ text_of (lines_in bytes)
cut_bytes len bytes is = ap (λ n. take n bytes) is ∙ take-text bytes

-- a file that is synced, read, and cut after the lines found is the text of the lines
pub cut_text : (len : ℕ) (old synced read scanned left : List ℕ) → synced ≡ old → read ≡ synced
    → scanned ≡ read → len ≡ length (text_of (lines_in scanned)) → left ≡ take len read
    → left ≡ text_of (lines_in old)
cut_text len old synced read scanned left same reads scans is cut =
    let found : read ≡ old = reads ∙ same in
    cut ∙ ap (take len) found
    ∙ cut_bytes len old (is ∙ ap (λ l. length (text_of (lines_in l))) (scans ∙ found))

module _ {F : Type 0} (model : FileModel F) (old synced : F) (time : PassesTime model old synced)
    (narrows : Narrows (model.may_leave old) (model.may_leave synced)) where
  -- what a crash may leave: what it could before, or the same lines
  abbrev SameLines : List ℕ → Type 0
  SameLines c = model.may_leave old c ⊎ (lines_in c ≡ lines_in (model.seen old))

  -- the first sync
  pub after_sync : LeavesOnly model old synced SameLines
  after_sync =
      one_call model old synced SameLines (λ c now. inl now) time (λ c now. inl (narrows c now))

  module _ (read : F) (read_time : PassesTime model synced read)
      (reads : Narrows (model.may_leave synced) (model.may_leave read)) where
    -- the read
    pub after_read : LeavesOnly model old read SameLines
    after_read = then_call model old synced read SameLines after_sync read_time
        (λ c now. inl (narrows c (reads c now)))

    module _ (len : ℕ) (cut : F) (is : len ≡ length (text_of (lines_in (model.seen old))))
        (only : HasOneOutcome (model.seen old) (model.may_leave synced))
        (cut_time : PassesTime model read cut)
        (cuts : Follows (TornCut len) (model.may_leave read) (model.may_leave cut)) where
      -- a crash after the cut leaves the same lines
      cut_lines : (c : List ℕ) → model.may_leave cut c → SameLines c
      cut_lines c now =
          let from = cuts c now in
          inr (torn_cut len (model.seen old) c is (subst (λ d. TornCut len d c)
          (only from.0 (reads from.0 from.1)) from.2))

      -- the cut
      pub after_cut : LeavesOnly model old cut SameLines
      after_cut = then_call model old read cut SameLines after_read cut_time cut_lines

      -- the second sync
      pub after_resync : (again : F) → PassesTime model cut again
          → Narrows (model.may_leave cut) (model.may_leave again)
          → LeavesOnly model old again SameLines
      after_resync again again_time same = then_call model old cut again SameLines after_cut
          again_time (λ c now. cut_lines c (same c now))

pub ruleset recovers = (after_sync, after_read)
