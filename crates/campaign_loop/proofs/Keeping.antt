-- The marks of a book remain.
use Rattle.std.proofs.Common.{◌≡◌, ℕ}
use Rattle.campaign_board.specs.Boards.{KeepsBook}

module _ {B : Type 0} (is_honest : B → Type 0) (is_marked : B → ℕ → Type 0) where
  -- a book that has not changed
  pub keeps_same : (old new : B) → new ≡ old → KeepsBook is_honest is_marked old new
  keeps_same old new same = record {
    honest = λ honest. rw (← same) honest;
    marks = λ honest at marked. rw same marked;
  }

  -- two parts, one after the other
  pub keeps_more : (old mid new : B) → KeepsBook is_honest is_marked old mid
      → KeepsBook is_honest is_marked mid new → KeepsBook is_honest is_marked old new
  keeps_more old mid new first second = record {
    honest = λ honest. first.honest (second.honest honest);
    marks = λ honest at marked. second.marks honest at
        (first.marks (second.honest honest) at marked);
  }
