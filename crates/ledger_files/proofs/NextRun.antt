-- What the run after a crash finds.
use Rattle.std.proofs.Common.{◌≡◌, ℕ, pos, IsTrue, sym, ap, subst, ◌∙◌}
use Rattle.sqlite_disk.specs.declared.Disk.{Ghosts}
use Rattle.sqlite.specs.declared.FileStore.{FileStore}
use Rattle.sqlite_store.specs.FileStore.{view, recovers, state}
use Rattle.sqlite.specs.Effect.{Database}
use Rattle.sqlite.specs.Held.{Held, AreDatabases}
use Rattle.sqlite.specs.Files.{file_state}
use Rattle.sqlite.specs.Recovery.{Image}
use Rattle.sqlite.specs.Tree.{Trees}
use Rattle.sqlite.proofs.Theorems.{next_run}
use Rattle.campaign_ledger.specs.declared.entry.LedgerEntry.{LedgerEntry}
use Rattle.campaign_ledger.specs.Entries.{HasGone}
use Rattle.sqlite_ledger.specs.Schema.{ledger_schema}
use Rattle.sqlite_ledger.specs.Marks.{IsBegun, IsMarked, IsLeft, LeavesEntries}
use Rattle.ledger_files.specs.Opened.{IsOpenedFrom}

module _ {D N : Type 0} {g : Ghosts D} {next : Ghosts N} (last : FileStore D g) (numbered : IsTrue
    (view last).is_numbered) (sound : AreDatabases (recovers last))
    (held : Image) (may : (state last).may_leave held) (now : Held (FileStore N next)) (opened :
    IsOpenedFrom held now) (ledger : opened.was.schema ≡ ledger_schema)
    (entries : ℕ → LedgerEntry) (is : IsLeft (file_state opened.was).committed.trees entries) where
  pub finds_left : LeavesEntries (recovers last) entries
  finds_left = (
    (file_state opened.was).committed.trees,
    next_run last numbered sound held may
        (file_state opened.was) (opened.found ledger),
    is,
  )

  pub finds_down : (place : ℕ) → HasGone (entries place) → IsMarked (file_state now).may_leave (pos
      place)
  finds_down place gone db left =
      let same = opened.unchanged ledger in
      let committed = opened.settled same.0.is_open db left ∙ ap (λ (d : Database). d.trees)
      same.0.committed_is in
      subst (λ (d : Trees). IsBegun d (pos place)) (sym committed) (is.begun place gone)
