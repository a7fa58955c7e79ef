-- A whole campaign: it began with the entries that a ledger had, and this is its report.
--     RunsPlan    a campaign has run
use Rattle.std.specs.Prelude.{ℕ, List, [], Option}
use Rattle.campaign_ledger.specs.declared.entry.LedgerEntry.{LedgerEntry}
use Rattle.campaign_board.specs.Histories.{Terms}
use Rattle.campaign_board.specs.Boards.{AreTerms, BoardState, KeepsBook}
use Rattle.campaign_loop.specs.Driving.{HasJobs}
use Rattle.campaign_loop.specs.Rows.{IsReport}
use Rattle.campaign_loop.specs.Wires.{Wire, IsLog}
use Rattle.campaign_loop.specs.declared.campaign.LoopReport.{LoopReport}
use Rattle.campaign_loop.specs.declared.jobs.CampaignJobs.{CampaignJobs}

module _ {B : Type 0} (is_honest : B → Type 0) (is_marked : B → ℕ → Type 0) where
  -- Whether a campaign of these jobs, with a book in which these entries were found, has run with
  -- at most `limit` open connections, has this report, and left this board. Before, nothing had
  -- happened on its connections.
  pub record RunsPlan (list : CampaignJobs) (limit : ℕ) (book : B) (found : List LedgerEntry)
      (report : LoopReport) (board : BoardState B) (before after : Option (List Wire)) : Type 0
    where
      pub runs : (terms : Terms) → AreTerms terms list.jobs.now found limit
          → HasJobs terms list.jobs.now list.passwords.now list.choices.now
          → IsLog terms [] before
          → IsReport is_honest is_marked terms list.jobs.now report.lines report.text report.end
          board after
      pub kept : KeepsBook is_honest is_marked book board.book
