-- The parts of a board whose campaign has not begun.
--     AreBeforeOf    the last earlier jobs of each one's address
--     AreNew         places whose jobs wait
use Rattle.std.specs.Prelude.{◌≡◌, ℕ, List, length, slice_get, Option, Some, None}
use Rattle.client_core.specs.declared.job.Job.{Job}
use Rattle.campaign_ledger.specs.declared.entry.LedgerEntry.{LedgerEntry}
use Rattle.campaign_board.specs.Talks.{PlaceState}
use Rattle.campaign_board.specs.Histories.{Terms}
use Rattle.campaign_board.specs.Boards.{AreTerms, AreBefore}

-- whether these are, for each of the jobs, the last earlier one of its address that has to be run
pub record AreBeforeOf (jobs : List Job) (found : List LedgerEntry) (before : List (Option ℕ))
    : Type 0 where
  pub count : length before ≡ length jobs
  pub are : (terms : Terms) (limit : ℕ) → AreTerms terms jobs found limit
      → AreBefore terms before

-- whether these are places in this number whose jobs wait
pub record AreNew (count : ℕ) (places : List PlaceState) : Type 0 where
  pub count_is : length places ≡ count
  pub each : (at : ℕ) (place : PlaceState) → slice_get places at ≡ Some place
      → (place.talk ≡ None) × (place.ending ≡ None)
