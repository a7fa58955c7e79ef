-- A run of a campaign on a ledger in a file.
--     IsEnd             how a ledger ended, by whether a call on it failed
--     IsRunOnFile       the open found what the file held, and the run was on this ledger
use Rattle.std.specs.Prelude.{◌≡◌, ℕ, pos, false, List, Option, Some, None, Result, IsTrue}
use Rattle.sqlite_disk.specs.declared.Disk.{Ghosts}
use Rattle.sqlite.specs.declared.FileStore.{FileStore}
use Rattle.sqlite.specs.Held.{Held}
use Rattle.sqlite.specs.Files.{file_state}
use Rattle.sqlite.specs.Recovery.{Image}
use Rattle.sqlite.specs.State.{HasCleanDisk}
use Rattle.client_core.specs.declared.job.Job.{Job}
use Rattle.campaign_ledger.specs.Grants.{LedgerState}
use Rattle.head_end.specs.Connections.{Forecast}
use Rattle.sqlite_ledger.specs.Marks.{IsMarked, LeavesEntries}
use Rattle.sqlite_ledger.specs.Outcomes.{IsSafe}
use Rattle.sqlite_ledger.specs.Schema.{ledger_schema}
use Rattle.ledger_files.specs.Opened.{IsLedgerFrom}
use Rattle.ledger_files.specs.declared.end.LedgerEnd.{LedgerEnd}
use Rattle.ledger_files.specs.declared.end.LedgerEnd.TheVariants.{Closed, NotClosed, Failed}
use Rattle.ledger_campaigns.specs.declared.texts.LedgerTexts.{LedgerTexts}
use Rattle.ledger_campaigns.specs.Texts.{IsRunOnLedger}

-- whether a ledger in this state may have ended like this: it has failed exactly if a call on it
-- did, and also if there is none
abbrev pub IsEnd : {B : Type 0} → Option (LedgerState B) → LedgerEnd → Type 0
IsEnd None end = end ≡ Failed
IsEnd (Some ledger) Closed = ledger.has_failed ≡ false
IsEnd (Some ledger) NotClosed = ledger.has_failed ≡ false
IsEnd (Some ledger) Failed = IsTrue ledger.has_failed

-- Whether the ledger was opened from what the files held, with its entries, the run was on this
-- ledger, and the ledger ended like this. The disk is honest if it returned what was written, a
-- place is marked if whatever a crash leaves has its mark, and an outcome is kept if whatever a
-- crash leaves has it.
pub record IsRunOnFile {D F : Type 0} (g : Ghosts D) (held : Image)
    (tells : List ℕ → Option Forecast) (jobs : List Job) (passwords : List (List ℕ))
    (texts : Result LedgerTexts F) (end : LedgerEnd) : Type 0 where
  pub start : LedgerState (Held (FileStore D g))
  pub now : Option (LedgerState (Held (FileStore D g)))
  pub schema_is : start.book.schema ≡ ledger_schema
  pub end_is : IsEnd now end
  pub opened : HasCleanDisk (file_state start.book)
      → IsLedgerFrom held start.book jobs start.entries
  pub run : IsRunOnLedger (λ book. HasCleanDisk (file_state book))
      (λ book place. IsMarked (file_state book).may_leave (pos place))
      (λ book place outcome. IsSafe (file_state book).may_leave (pos place) outcome)
      (λ book entries. LeavesEntries (file_state book).may_leave entries) tells jobs passwords
      start now texts
