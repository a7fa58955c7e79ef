-- Meters that are asked by the lines of a ledger in a file.
--     AreQuestions      jobs are the questions of lines of a ledger
--     IsAskedOnFile     meters were asked, and their answers recorded next to the ledger
use Rattle.std.specs.Prelude.{◌≡◌, ℕ, List, Option, OnOk}
use Rattle.sqlite_disk.specs.declared.Disk.{Ghosts}
use Rattle.sqlite.specs.Recovery.{Image}
use Rattle.client_core.specs.declared.job.Job.{Job}
use Rattle.head_end.specs.Connections.{Forecast}
use Rattle.ledger_reports.specs.declared.line.LedgerLine.{LedgerLine}
use Rattle.ledger_campaigns.specs.AskedMeters.{IsAsked}
use Rattle.ledger_campaigns.specs.Questions.{questions}
use Rattle.ledger_campaigns.specs.declared.asked_meters.AskedMeters.{AskedMeters}
use Rattle.ledger_files.specs.Answered.{AreRecorded}
use Rattle.ledger_files.specs.declared.asking.AskedLedger.{AskedLedger}

-- whether jobs are the questions of some lines, which were read of a ledger: so none of them is a
-- switching command (`questions_switch_nothing` of `ledger_campaigns`)
pub record AreQuestions (jobs : List Job) : Type 0 where
  pub lines : List LedgerLine
  pub are : jobs ≡ questions lines

-- whether the meters of these jobs were asked, and the text is the report; if the answers are
-- recorded, these are the answers that report a state
pub record IsAskedOnFile {D : Type 0} (g : Ghosts D) (held : Image)
    (tells : List ℕ → Option Forecast) (workers : ℕ) (jobs : List Job)
    (passwords : List (List ℕ)) (asked : AskedLedger) : Type 0 where
  pub asked_at : Option ℕ
  pub meters : AskedMeters
  pub were : IsAsked tells workers jobs passwords asked_at meters
  pub text_is : asked.text ≡ meters.text
  pub recorded : OnOk asked.recorded (AreRecorded g held meters.answers.items)
