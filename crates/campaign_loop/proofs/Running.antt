-- The end of a loop, and its report.
use Rattle.std.proofs.Common.{◌≡◌, ℕ, List, [], Option, Result, Ok, Err, sym, ◌∙◌, map}
use Rattle.std.specs.Prelude.{OnOk}
use Rattle.client_core.specs.declared.job.Job.{Job}
use Rattle.head_end.specs.declared.row.ReportLine.{ReportLine}
use Rattle.head_end.specs.Reports.{report_text}
use Rattle.campaign_board.specs.Lives.{Happening}
use Rattle.campaign_board.specs.Histories.{Terms}
use Rattle.campaign_board.specs.Boards.{BoardState, IsBoard, IsSettled, HaveOutcomes, IsNewBoard}
use Rattle.campaign_loop.specs.declared.turns.LoopFault.{LoopFault}
use Rattle.campaign_loop.specs.Wires.{Wire}
use Rattle.campaign_loop.specs.Driving.{DrivesJobs, Runs}
use Rattle.campaign_ledger.specs.declared.entry.LedgerEntry.{LedgerEntry}
use Rattle.campaign_loop.specs.declared.campaign.LoopReport.{LoopReport}
use Rattle.campaign_loop.specs.declared.jobs.CampaignJobs.{CampaignJobs}
use Rattle.campaign_loop.specs.Planned.{RunsPlan}
use Rattle.campaign_loop.proofs.Keeping.{keeps_more}
use Rattle.campaign_loop.specs.Rows.{AreRows, Reports, blank_row}

module _ {B : Type 0} (is_honest : B → Type 0) (is_marked : B → ℕ → Type 0) where
  over_of : {F : Type 0} (result : Result (Unit {0}) F) (board : BoardState B) (terms : Terms)
      (steps : List Happening) → OnOk result (IsSettled is_honest is_marked board)
      → IsBoard is_honest is_marked terms steps board → OnOk result (HaveOutcomes terms steps)
  over_of (Ok x) board terms steps settled is = settled.settled terms steps is
  over_of (Err fault) board terms steps settled is = settled

  -- the loop ended after its last turn
  pub runs_end : {F : Type 0} (jobs : List Job) (passwords : List (List ℕ)) (choices : List ℕ)
      (result : Result (Unit {0}) F) (old mid new : BoardState B)
      (before between after : Option (List Wire))
      → DrivesJobs is_honest is_marked jobs passwords choices old before mid between
      → DrivesJobs is_honest is_marked jobs passwords choices mid between new after
      → new.busy ≡ 0 → OnOk result (IsSettled is_honest is_marked new)
      → Runs is_honest is_marked jobs passwords choices result old before new after
  runs_end jobs passwords choices result old mid new before between after first second idle
      settled = record {
        runs = λ terms has driven.
            let last = second.drives terms has (first.drives terms has driven) in record {
              driven = last;
              idle = sym last.board_is.busy ∙ idle;
              over = over_of result new terms last.steps settled last.board_is;
            };
        kept = keeps_more is_honest is_marked old.book mid.book new.book first.kept second.kept;
      }

  -- the report of a loop that ran
  pub reports_run : (jobs : List Job) (passwords : List (List ℕ)) (choices text : List ℕ)
      (result : Result (Unit {0}) LoopFault) (old new : BoardState B)
      (before after : Option (List Wire)) (lines : List ReportLine)
      → Runs is_honest is_marked jobs passwords choices result old before new after
      → AreRows is_honest is_marked new (blank_row result) lines
      → map (λ (l : ReportLine). l.id) lines ≡ map (λ (j : Job). j.id) jobs
      → text ≡ report_text lines
      → Reports is_honest is_marked jobs passwords choices lines text result old before new after
  reports_run jobs passwords choices text result old new before after lines runs rows names
      text_is = record {
        reports = λ terms has driven. let run = runs.runs terms has driven in record {
          run = run;
          names = names;
          rows = rows.rows terms run.driven.steps run.driven.board_is;
          text_is = text_is;
        };
        kept = runs.kept;
      }

  -- a plan that ran over a new board
  pub runs_plan : (list : CampaignJobs) (limit : ℕ) (book : B) (found : List LedgerEntry)
      (report : LoopReport) (old new : BoardState B) (before after : Option (List Wire))
      → IsNewBoard is_honest is_marked list.jobs.now found limit old → old.book ≡ book
      → Reports is_honest is_marked list.jobs.now list.passwords.now list.choices.now report.lines
      report.text report.end old before new after
      → RunsPlan is_honest is_marked list limit book found report new before after
  runs_plan list limit book found report old new before after is_new book_is reports = record {
    runs = λ terms are has log_is. reports.reports terms has (record {
      steps = [];
      board_is = is_new.is_new terms are;
      log_is = log_is;
    });
    kept = rw (← book_is) reports.kept;
  }
