-- The parts of a campaign's loop: each continues the steps of the campaign.
--     password_at    the password of a job
--     HasJobs        a campaign has these jobs and passwords
--     IsDriven       a board and a log after some steps
--     Drives         a part of the loop continues the steps of a campaign
--     Runs           the whole loop
use Rattle.std.specs.Prelude.{◌≡◌, ◌<◌, ℕ, List, [], length, slice_index_or, Option, Result, OnOk}
use Rattle.client_core.specs.declared.job.Job.{Job}
use Rattle.campaign_board.specs.Lives.{Happening}
use Rattle.campaign_board.specs.Histories.{Terms, open_count}
use Rattle.campaign_board.specs.Boards.{BoardState, IsBoard, KeepsBook, HaveOutcomes}
use Rattle.campaign_loop.specs.Wires.{Wire, IsLog}

-- the password of a job: the one that was chosen among all
abbrev pub password_at : List (List ℕ) → List ℕ → ℕ → List ℕ
password_at passwords choices at = slice_index_or passwords (slice_index_or choices at 0) []

-- whether a campaign has these jobs, and these passwords by the choice of each
pub record HasJobs (terms : Terms) (jobs : List Job) (passwords : List (List ℕ))
    (choices : List ℕ) : Type 0 where
  pub jobs_are : (at : ℕ) (job : Job) → at < length jobs
      → terms.job at ≡ slice_index_or jobs at job
  pub passwords_are : (at : ℕ) → at < length jobs
      → terms.password at ≡ password_at passwords choices at

module _ {B : Type 0} (is_honest : B → Type 0) (is_marked : B → ℕ → Type 0) where
  -- whether a board and the log of the connections are those of a campaign after some steps
  pub record IsDriven (terms : Terms) (board : BoardState B) (log : Option (List Wire)) : Type 0
    where
      pub steps : List Happening
      pub board_is : IsBoard is_honest is_marked terms steps board
      pub log_is : IsLog terms steps log

  -- whether a part of the loop continues the steps of a campaign
  pub record Drives (old : BoardState B) (before : Option (List Wire)) (new : BoardState B)
      (after : Option (List Wire)) : Type 0 where
    pub drives : (terms : Terms) → IsDriven terms old before → IsDriven terms new after
    pub kept : KeepsBook is_honest is_marked old.book new.book

  -- whether a part of the loop continues the steps of a campaign that has this job at a place
  pub record DrivesJob (at : ℕ) (job : Job) (password : List ℕ) (old : BoardState B)
      (before : Option (List Wire)) (new : BoardState B) (after : Option (List Wire)) : Type 0 where
    pub drives : (terms : Terms) → terms.job at ≡ job → terms.password at ≡ password
        → IsDriven terms old before → IsDriven terms new after
    pub kept : KeepsBook is_honest is_marked old.book new.book

  -- whether a part of the loop continues the steps of a campaign that has these jobs
  pub record DrivesJobs (jobs : List Job) (passwords : List (List ℕ)) (choices : List ℕ)
      (old : BoardState B) (before : Option (List Wire)) (new : BoardState B)
      (after : Option (List Wire)) : Type 0 where
    pub drives : (terms : Terms) → HasJobs terms jobs passwords choices → IsDriven terms old before
        → IsDriven terms new after
    pub kept : KeepsBook is_honest is_marked old.book new.book

  -- whether the loop of a campaign ended: no connection is open, and if it ended without a fault,
  -- each job that had to be run is over
  pub record HasRun {F : Type 0} (terms : Terms) (result : Result (Unit {0}) F)
      (board : BoardState B) (log : Option (List Wire)) : Type 0 where
    pub driven : IsDriven terms board log
    pub idle : open_count driven.steps ≡ 0
    pub over : OnOk result (HaveOutcomes terms driven.steps)

  -- whether the loop ran a campaign that has these jobs
  pub record Runs {F : Type 0} (jobs : List Job) (passwords : List (List ℕ)) (choices : List ℕ)
      (result : Result (Unit {0}) F) (old : BoardState B) (before : Option (List Wire))
      (new : BoardState B) (after : Option (List Wire)) : Type 0 where
    pub runs : (terms : Terms) → HasJobs terms jobs passwords choices → IsDriven terms old before
        → HasRun terms result new after
    pub kept : KeepsBook is_honest is_marked old.book new.book
