-- The report that `run` prints.
use Rattle.std.specs.Prelude.{ℕ, List, length, Option}
use Rattle.std.specs.Io.KnownBytes.{Appends}
use Rattle.client_core.specs.declared.job.Job.{Job}
use Rattle.head_end.specs.Attempts.{State}
use Rattle.head_end.specs.Campaigns.{turns_for, AreTriedWith}
use Rattle.head_end.specs.Connections.{Forecast}
use Rattle.head_end.specs.Reports.{report_text}
use Rattle.head_end.specs.Rows.{AreLines}
use Rattle.head_end.specs.declared.row.ReportLine.{ReportLine}

-- whether the jobs were run, and the lines of all of them were printed
pub record PrintsReport (tells : List ℕ
    → Option Forecast) (workers : ℕ) (jobs : List Job)
    (passwords : List (List ℕ))
    (written written' : Option (List ℕ)) : Type 0 where
  pub lines : List ReportLine
  pub stages : List State
  pub lines_are : AreLines tells jobs lines
  pub tried : AreTriedWith (turns_for (length jobs) workers) workers jobs passwords lines stages
  pub printed : Appends written written' (report_text lines)
