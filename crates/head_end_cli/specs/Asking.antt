-- What `ask` prints.
--     PrintsAsked       the answers are recorded, and the report of the questions is printed
--     PrintsAnswers     the meters of jobs were asked, and this holds of them
use Rattle.std.specs.Prelude.{ℕ, List, Option, IsOk}
use Rattle.std.specs.Io.KnownBytes.{Appends}
use Rattle.sqlite_disk.specs.declared.Disk.{Ghosts}
use Rattle.sqlite.specs.Recovery.{Image}
use Rattle.client_core.specs.declared.job.Job.{Job}
use Rattle.head_end.specs.Connections.{Forecast}
use Rattle.ledger_campaigns.specs.AskedMeters.{IsAsked}
use Rattle.ledger_campaigns.specs.declared.asked_meters.AskedMeters.{AskedMeters}
use Rattle.ledger_files.specs.Answered.{AreRecorded}
use Rattle.ledger_files.specs.declared.asking.AskedLedger.{AskedLedger}

-- whether the answers are recorded, and the report of the questions was printed
pub record PrintsAsked (asked : AskedLedger) (written written' : Option (List ℕ)) : Type 0 where
  pub recorded : IsOk asked.recorded
  pub printed : Appends written written' asked.text

-- whether the meters of these jobs were asked, their answers are recorded next to the ledger, and
-- the report was printed
pub record PrintsAnswers {D : Type 0} (g : Ghosts D) (held : Image)
    (tells : List ℕ → Option Forecast) (workers : ℕ) (jobs : List Job)
    (passwords : List (List ℕ)) (written written' : Option (List ℕ)) : Type 0 where
  pub asked_at : Option ℕ
  pub asked : AskedMeters
  pub were : IsAsked tells workers jobs passwords asked_at asked
  pub recorded : AreRecorded g held asked.answers.items
  pub printed : Appends written written' asked.text
