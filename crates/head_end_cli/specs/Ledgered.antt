-- What `run --ledger` and `status` print.
--     PrintsTexts       the report is printed, unless out of memory
--     PrintsRun         the jobs were run with permits of the ledger, which did not fail, and the
--                       report is printed
--     HaveAnswers       lines of a ledger have their answers
--     PrintsStatus      the lines of a ledger, with their answers, are printed
use Rattle.std.specs.Prelude.{◌≡◌, ℕ, codes, map, List, Option, Result, Ok, Err}
use Rattle.std.specs.Io.KnownBytes.{Appends}
use Rattle.std.specs.declared.alloc.AllocError.{AllocError}
use Rattle.clap.specs.Matches.{first_value}
use Rattle.clap.specs.declared.parser.matches.Found.{Found}
use Rattle.sqlite_disk.specs.declared.Disk.{Ghosts}
use Rattle.sqlite.specs.Recovery.{Image}
use Rattle.client_core.specs.declared.job.Job.{Job}
use Rattle.head_end.specs.Connections.{Forecast}
use Rattle.ledger_campaigns.specs.declared.texts.LedgerTexts.{LedgerTexts}
use Rattle.ledger_files.specs.declared.end.LedgerEnd.TheVariants.{Closed}
use Rattle.ledger_files.specs.Runs.{IsRunOnFile}
use Rattle.ledger_reports.specs.Answers.{with_answer}
use Rattle.ledger_reports.specs.declared.answer.StateAnswer.{StateAnswer}
use Rattle.ledger_reports.specs.declared.line.LedgerLine.{LedgerLine}
use Rattle.ledger_records.specs.Formats.{IsNamed}
use Rattle.ledger_records.specs.Texts.{text_in}
use Rattle.ledger_records.specs.declared.format.LedgerFormat.{LedgerFormat}

-- whether the report of the texts was printed
abbrev pub PrintsTexts : {F : Type 0} → Result LedgerTexts F → Option (List ℕ) → Option (List ℕ)
    → Type 0
PrintsTexts (Ok texts) written written' = Appends written written' texts.text
PrintsTexts (Err fault) written written' = ⊥

-- whether the jobs were run with permits of the ledger in the file, which was closed after no call
-- on it had failed, and the report of all of them was printed
pub record PrintsRun {D : Type 0} (g : Ghosts D) (held : Image)
    (tells : List ℕ → Option Forecast) (jobs : List Job) (passwords : List (List ℕ))
    (written written' : Option (List ℕ)) : Type 0 where
  pub texts : Result LedgerTexts AllocError
  pub ran : IsRunOnFile g held tells jobs passwords texts Closed
  pub printed : PrintsTexts texts written written'

-- whether lines are those that were read of a ledger, each with the latest of the answers that were
-- read next to it, if it has one
pub record HaveAnswers (lines : List LedgerLine) : Type 0 where
  pub read : List LedgerLine
  pub answers : List StateAnswer
  pub are : lines ≡ map (with_answer answers) read

-- whether the lines that were read of a ledger, each with its answer, were printed, in the format
-- that the option `--format` names
pub record PrintsStatus (found : Found) (written written' : Option (List ℕ)) : Type 0 where
  pub lines : List LedgerLine
  pub have_answers : HaveAnswers lines
  pub format : LedgerFormat
  pub named : IsNamed (first_value found (codes "format")) format
  pub printed : Appends written written' (text_in format lines)
