-- What an open of a ledger's file finds.
--     IsOpenedFrom      the connection sees what the files hold
--     IsLedgerFrom      the entries are those that the connection shows
use Rattle.std.specs.Prelude.{◌≡◌, List, [], length, replicate}
use Rattle.sqlite_disk.specs.declared.Disk.{Ghosts}
use Rattle.sqlite.specs.declared.FileStore.{FileStore}
use Rattle.sqlite.specs.Held.{Held}
use Rattle.sqlite.specs.Files.{file_state, IsOpened}
use Rattle.sqlite.specs.Recovery.{Image}
use Rattle.sqlite.specs.Start.{FindsIn}
use Rattle.sqlite.specs.State.{IsUnchanged}
use Rattle.client_core.specs.declared.job.Job.{Job}
use Rattle.campaign_ledger.specs.declared.entry.LedgerEntry.{LedgerEntry}
use Rattle.campaign_ledger.specs.declared.entry.LedgerEntry.TheVariants.{NotSent}
use Rattle.sqlite_ledger.specs.Marks.{LeavesCommit}
use Rattle.sqlite_ledger.specs.Lines.{HasLedger}
use Rattle.sqlite_ledger.specs.Schema.{ledger_schema}

-- Whether a connection was opened over these files. If it found a ledger, that is what the files
-- hold, and the connection sees it unchanged. While it is open, a crash leaves the last commit.
pub record IsOpenedFrom {D : Type 0} {g : Ghosts D} (held : Image) (now : Held (FileStore D g)) :
    Type 0 where
  pub was : Held (FileStore D g)
  pub opened : was.schema ≡ ledger_schema → IsOpened was
  pub found : was.schema ≡ ledger_schema → FindsIn held (file_state was)
  pub unchanged : was.schema ≡ ledger_schema → IsUnchanged (file_state was) (file_state now)
  pub settled : LeavesCommit (file_state now)

-- Whether these are the entries of these jobs in a ledger that was opened over these files. If the
-- open found a ledger, its queries show that it has these jobs, and the marks and the outcomes that
-- the entries are made of; if it found no table, no command was sent.
pub record IsLedgerFrom {D : Type 0} {g : Ghosts D} (held : Image) (now : Held (FileStore D g))
    (jobs : List Job) (entries : List LedgerEntry) : Type 0 where
  pub from : IsOpenedFrom held now
  pub has_ledger : from.was.schema ≡ ledger_schema
      → HasLedger (λ conn. file_state conn) from.was now jobs entries
  pub new : from.was.schema.tables ≡ [] → entries ≡ replicate (length jobs) NotSent
