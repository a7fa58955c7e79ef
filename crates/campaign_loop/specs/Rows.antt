-- The report of a campaign, by the steps of its board.
--     row_of         the row of a place, by its outcome
--     blank_row      the row of the jobs that did not begin
--     AreRows        the lines of all jobs, by a board
--     Reports        the whole loop with its report
use Rattle.std.specs.Prelude.{◌≡◌, ◌<◌, ℕ, List, length, map, slice_index_or, Option, Some, None, Result, Ok, Err}
use Rattle.client_core.specs.declared.job.Job.{Job}
use Rattle.client_core.specs.declared.job.Outcome.TheVariants.{Unknown}
use Rattle.head_end.specs.declared.row.Row.{Row}
use Rattle.head_end.specs.declared.row.Row.TheVariants as row
use Rattle.head_end.specs.declared.row.ReportLine.{ReportLine}
use Rattle.head_end.specs.Reports.{report_text}
use Rattle.campaign_board.specs.declared.place.Ending.{Ending}
use Rattle.campaign_board.specs.Lives.{Happening, life_of}
use Rattle.campaign_board.specs.Histories.{Terms}
use Rattle.campaign_board.specs.Boards.{BoardState, IsBoard, KeepsBook, ending_at}
use Rattle.campaign_loop.specs.declared.turns.LoopFault.{LoopFault}
use Rattle.campaign_loop.specs.declared.turns.LoopFault.TheVariants.{Wires, Ledger, Memory, Stopped}
use Rattle.campaign_loop.specs.Wires.{Wire}
use Rattle.campaign_loop.specs.Driving.{HasJobs, IsDriven, HasRun}

-- the row of a place: that of its outcome, or the blank one without an end
abbrev pub row_of : Row → Option Ending → Row
row_of blank (Some ending) = row.Came ending.outcome
row_of blank None = blank

-- the row of the jobs that did not begin, by the end of the loop: `memory` if that was why
abbrev pub blank_row : Result (Unit {0}) LoopFault → Row
blank_row (Err Memory) = row.Memory
blank_row (Err Wires) = row.Came Unknown
blank_row (Err Ledger) = row.Came Unknown
blank_row (Err Stopped) = row.Came Unknown
blank_row (Ok x) = row.Came Unknown

-- whether each line has the row of its place after these steps
abbrev pub AreRowsBy : Terms → List Happening → Row → List ReportLine → Type 0
AreRowsBy terms steps blank lines = (at : ℕ) (line : ReportLine) → at < terms.count
    → at < length lines
    → (slice_index_or lines at line).row
    ≡ row_of blank (ending_at (terms.found at) (terms.job at).verb (life_of at steps))

module _ {B : Type 0} (is_honest : B → Type 0) (is_marked : B → ℕ → Type 0) where
  -- whether each line has the row of its place by a board
  pub record AreRows (board : BoardState B) (blank : Row) (lines : List ReportLine) : Type 0
    where
      pub rows : (terms : Terms) (steps : List Happening)
          → IsBoard is_honest is_marked terms steps board → AreRowsBy terms steps blank lines

  -- whether a text is the report of a campaign that has run: for each job a line with its name, and
  -- the row of what happened at its place
  pub record IsReport (terms : Terms) (jobs : List Job) (lines : List ReportLine) (text : List ℕ)
      (result : Result (Unit {0}) LoopFault) (board : BoardState B) (log : Option (List Wire))
      : Type 0
    where
      pub run : HasRun is_honest is_marked terms result board log
      pub names : map (λ line. line.id) lines ≡ map (λ job. job.id) jobs
      pub rows : AreRowsBy terms run.driven.steps (blank_row result) lines
      pub text_is : text ≡ report_text lines

  -- whether the loop ran a campaign that has these jobs, and this is its report
  pub record Reports (jobs : List Job) (passwords : List (List ℕ)) (choices : List ℕ)
      (lines : List ReportLine) (text : List ℕ)
      (result : Result (Unit {0}) LoopFault) (old : BoardState B) (before : Option (List Wire))
      (new : BoardState B) (after : Option (List Wire)) : Type 0 where
    pub reports : (terms : Terms) → HasJobs terms jobs passwords choices
        → IsDriven is_honest is_marked terms old before
        → IsReport terms jobs lines text result new after
    pub kept : KeepsBook is_honest is_marked old.book new.book
