-- A run of a campaign on a ledger that a storage opened.
--     IsRunOnLedger     what it sent, and its report
use Rattle.std.specs.Prelude.{◌≡◌, ℕ, List, Option, Result, false, IfOk, IfSome}
use Rattle.turn_lock.specs.Shown.{ShownPort}
use Rattle.client_core.specs.declared.job.Job.{Job}
use Rattle.client_core.specs.declared.job.Outcome.{Outcome}
use Rattle.campaign_ledger.specs.declared.entry.LedgerEntry.{LedgerEntry}
use Rattle.campaign_ledger.specs.Grants.{LedgerState, MakesSafeRuns}
use Rattle.campaign_ledger.specs.Runs.{AreApart}
use Rattle.head_end.specs.declared.row.ReportLine.{ReportLine}
use Rattle.head_end.specs.Attempts.{State}
use Rattle.head_end.specs.Connections.{Forecast}
use Rattle.head_end.specs.Reports.{report_text}
use Rattle.ledger_campaigns.specs.Campaigns.{AreLinesFor, AreStored, AreSwitched}
use Rattle.ledger_campaigns.specs.Campaigns.{IsLedgeredRun}
use Rattle.ledger_campaigns.specs.declared.request.LedgerRequest.{LedgerRequest}
use Rattle.ledger_campaigns.specs.declared.request.LedgerAnswer.{LedgerAnswer}
use Rattle.ledger_campaigns.specs.declared.texts.LedgerTexts.{LedgerTexts}

module _ {B : Type 0} (is_honest : B → Type 0) (is_marked : B → ℕ → Type 0)
    (keeps : B → ℕ → Outcome → Type 0) (may_leave : B → (ℕ → LedgerEntry) → Type 0) where
  -- Whether a run began with the ledger `start`, and sent switching commands only with its permits.
  -- If the book is honest and the commands of some places, each once, went out by the logs of the
  -- connections, the run is safe, whatever entries the storage held before and a crash leaves. The
  -- outcomes of the conversations are in the ledger at the end, if it has not failed and the ports
  -- of their places have not read that all turns of the lock were drawn. The report is that of the
  -- whole list.
  pub record IsRunOnLedger {F : Type 0} (tells : List ℕ → Option Forecast) (jobs : List Job)
      (passwords : List (List ℕ)) (start : LedgerState B) (now : Option (LedgerState B))
      (texts : Result LedgerTexts F) : Type 0 where
    pub lines : List ReportLine
    pub stages : List State
    pub lines_are : AreLinesFor tells jobs start.entries lines
    pub ports : List (ShownPort LedgerRequest (LedgerAnswer B) (LedgerState B))
    pub run : IsLedgeredRun is_honest is_marked keeps jobs passwords start now lines stages ports
    pub stored : IfSome now (λ ledger. ledger.has_failed ≡ false
        → AreStored is_honest is_marked keeps jobs lines stages ports ledger)
    pub safe : IfSome now (λ ledger. (sent : List ℕ) → AreApart sent → AreSwitched jobs stages sent
        → MakesSafeRuns is_honest is_marked may_leave start ledger sent)
    pub text_is : IfOk texts (λ it. it.text ≡ report_text lines)
