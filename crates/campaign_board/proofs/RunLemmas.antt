-- Campaigns as runs of a ledger.
use Rattle.std.proofs.Common.{◌≡◌, ◌≤◌, ◌<◌, ◌∙◌, ℕ, suc, true, false, List, arith}
use Rattle.campaign_ledger.specs.declared.entry.LedgerEntry.{LedgerEntry}
use Rattle.campaign_ledger.specs.declared.entry.LedgerEntry.TheVariants.{NotSent}
use Rattle.campaign_ledger.specs.Entries.{HasGone}
use Rattle.campaign_ledger.specs.Grants.{IsFoundBy}
use Rattle.campaign_ledger.specs.Runs.{IsIn, AreApart, IsSafeRun}
use Rattle.campaign_board.specs.Lives.{Happening, life_of}
use Rattle.campaign_board.specs.Talks.{is_question}
use Rattle.campaign_board.specs.Histories.{Terms}
use Rattle.campaign_board.specs.Boards.{BoardState, IsBoard, KeepsBook}
use Rattle.campaign_board.proofs.LegalLemmas.{legal_safe, has_begun}

-- a campaign is a safe run, if a crash leaves marked what is marked
pub safe_run : {B : Type 0} (is_honest : B → Type 0) (is_marked : B → ℕ → Type 0)
    (may_leave : B → (ℕ → LedgerEntry) → Type 0)
    (stays : (book : B) (place : ℕ) (left : ℕ → LedgerEntry) → is_marked book place
    → may_leave book left → HasGone (left place))
    (terms : Terms) (steps : List Happening) (start : B) (board : BoardState B) (sent : List ℕ)
    (left : ℕ → LedgerEntry) → IsBoard is_honest is_marked terms steps board
    → KeepsBook is_honest is_marked start board.book → is_honest board.book
    → IsFoundBy is_honest is_marked terms.found start → may_leave board.book left → AreApart sent
    → ((place : ℕ) → IsIn place sent → (is_question (terms.job place).verb ≡ false)
    × (2 ≤ (life_of place steps).given))
    → IsSafeRun (record { found = terms.found; sent = sent; left = left })
safe_run is_honest is_marked may_leave stays terms steps start board sent left is keeps honest found
    leaves apart are =
    let safe = legal_safe terms steps is.legal in
    let marked = λ (place : ℕ) (in_sent : IsIn place sent). safe.marked place
    (are place in_sent).0 (are place in_sent).1 in
    record {
      apart = apart;
      fresh = λ place in_sent. (has_begun terms steps place is.legal).not_sent
          (safe.reached place (marked place in_sent)).0;
      marks_sent = λ place in_sent. stays board.book place left
          (is.marked honest place (marked place in_sent)) leaves;
      keeps_marks = λ place gone. stays board.book place left
          (keeps.marks honest place (found place gone)) leaves;
    }
