-- The permits of two successive spans of calls, and the reasons why a run is safe.
use Rattle.std.proofs.Common.{◌≡◌, ◌⊎◌, ℕ, List, [], ◌++◌, inl, inr}
use Rattle.campaign_ledger.specs.declared.entry.LedgerEntry.{LedgerEntry}
use Rattle.campaign_ledger.specs.declared.entry.LedgerEntry.TheVariants.{NotSent}
use Rattle.campaign_ledger.specs.Entries.{HasGone, entry_at}
use Rattle.campaign_ledger.specs.Grants.{LedgerState, Grants, IsFoundBy}
use Rattle.campaign_ledger.specs.Runs.{IsSafeRun, IsIn, AreApart}
use Rattle.campaign_ledger.proofs.RunLemmas.{in_either, apart_both, not_gone, gone_not_new}

-- a fact of the places of two lists
on_both : (P : ℕ → Type 0) (xs ys : List ℕ) → ((place : ℕ) → IsIn place xs → P place)
    → ((place : ℕ) → IsIn place ys → P place) → (place : ℕ) → IsIn place (xs ++ ys) → P place
on_both P xs ys first second place is = of_one (in_either place xs ys is)
  where
    of_one : IsIn place xs ⊎ IsIn place ys → P place
    of_one (inl here) = first place here
    of_one (inr there) = second place there

module _ {B : Type 0} (is_honest : B → Type 0) (is_marked : B → ℕ → Type 0) where
  -- a ledger that was not asked gave no permit
  pub none : (ledger : LedgerState B) → Grants is_honest is_marked ledger ledger []
  none ledger = record {
    apart = tt;
    not_sent = λ place is. absurd is;
    gone = λ place is. absurd is;
    remains_gone = λ place gone. gone;
    honest = λ honest. honest;
    fresh = λ honest place is. absurd is;
    durable = λ honest place is. absurd is;
    remains_marked = λ honest place down. down;
  }

  -- the permits of two successive spans are those of the whole
  pub both : (before between after : LedgerState B) (permits more : List ℕ)
      → Grants is_honest is_marked before between permits
      → Grants is_honest is_marked between after more
      → Grants is_honest is_marked before after (permits ++ more)
  both before between after permits more first second = record {
    apart = apart_both permits more first.apart second.apart
        (λ place here there. gone_not_new (entry_at between.entries place) (first.gone place here)
        (second.not_sent place there));
    not_sent = on_both (λ place. entry_at before.entries place ≡ NotSent) permits more
        first.not_sent
        (λ place there. not_gone (entry_at before.entries place)
        (λ gone. gone_not_new (entry_at between.entries place) (first.remains_gone place gone)
        (second.not_sent place there)));
    gone = on_both (λ place. HasGone (entry_at after.entries place)) permits more
        (λ place here. second.remains_gone place (first.gone place here)) second.gone;
    remains_gone = λ place gone. second.remains_gone place (first.remains_gone place gone);
    honest = λ honest. first.honest (second.honest honest);
    fresh = λ honest. on_both (λ place. ¬ is_marked before.book place) permits more
        (first.fresh (second.honest honest))
        (λ place there down. second.fresh honest place there
        (first.remains_marked (second.honest honest) place down));
    durable = λ honest. on_both (λ place. is_marked after.book place) permits more
        (λ place here. second.remains_marked honest place (first.durable
        (second.honest honest) place here))
        (second.durable honest);
    remains_marked = λ honest place down. second.remains_marked honest place
        (first.remains_marked (second.honest honest) place down);
  }

  -- commands that are sent with permits, each once, make a run safe
  pub safe_run : (may_leave : B → (ℕ → LedgerEntry) → Type 0)
      → ((book : B) (place : ℕ) (left : ℕ → LedgerEntry) → is_marked book place
      → may_leave book left
      → HasGone (left place))
      → (start now : LedgerState B) (permits sent : List ℕ)
      → Grants is_honest is_marked start now permits → AreApart sent
      → ((place : ℕ) → IsIn place sent → IsIn place permits) → is_honest now.book
      → (found left : ℕ → LedgerEntry) → IsFoundBy is_honest is_marked found start.book
      → may_leave now.book left
      → IsSafeRun record { found = found; sent = sent; left = left }
  safe_run may_leave stays start now permits sent grants apart with_permits honest found left
      found_by leaves = record {
        apart = apart;
        fresh = λ place is. not_gone (found place)
            (λ gone. grants.fresh honest place (with_permits place is) (found_by place gone));
        marks_sent = λ place is. stays now.book place left
            (grants.durable honest place (with_permits place is)) leaves;
        keeps_marks = λ place gone. stays now.book place left
            (grants.remains_marked honest place (found_by place gone)) leaves;
      }
