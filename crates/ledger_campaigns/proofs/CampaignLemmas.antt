-- Lines that are filled with their rows one by one, the places after the run, and the run as a
-- whole.
use Rattle.std.proofs.Common.{◌∙◌}
use Rattle.std.proofs.Common.{arith, ◌≡◌, ◌⊎◌, ◌+◌, ◌<◌, ℕ, List, length, slice_index_or, inl, inr}
use Rattle.std.proofs.Math.Nat.{eq-or-lt_of_le}
use Rattle.std.proofs.lemmas.List.{get_or_default}
use Rattle.turn_lock.specs.declared.known.Known.{Known}
use Rattle.turn_lock.specs.Calls.{Yields}
use Rattle.turn_lock.specs.History.{StartsWith}
use Rattle.turn_lock.proofs.Lists.{starts_trans}
use Rattle.client_core.specs.declared.job.Outcome.{Outcome}
use Rattle.campaign_ledger.specs.Grants.{LedgerState}
use Rattle.head_end.specs.declared.row.Row.{Row}
use Rattle.head_end.specs.declared.row.ReportLine.{ReportLine}
use Rattle.ledger_campaigns.specs.declared.request.LedgerRequest.{LedgerRequest}
use Rattle.ledger_campaigns.specs.declared.request.LedgerAnswer.{LedgerAnswer}
use Rattle.ledger_campaigns.specs.Campaigns.{Closes}
use Rattle.ledger_campaigns.specs.Desks.{DeskState, IsLegalHistory, Stands}

-- the first lines have the rows of their places, and all keep their names
pub record Gathers (old : List ReportLine) (rows_are : List Row) (done : ℕ)
    (new : List ReportLine) : Type 0 where
  pub rows : (i : ℕ) (line : ReportLine) (row : Row) → i < done → (slice_index_or new i line).row
      ≡ slice_index_or rows_are i row
  pub ids : (i : ℕ) (line : ReportLine) → i < length old → (slice_index_or new i line).id
      ≡ (slice_index_or old i line).id
  pub len : length new ≡ length old

-- a fact of the first elements of a list
abbrev pub AllBelow : {X : Type 0} → (X → Type 0) → ℕ → List X → Type 0
AllBelow {X} P n xs = (k : ℕ) (x : X) → k < n → P (slice_index_or xs k x)

-- one element more
pub below_more : {X : Type 0} (P Q : X → Type 0) (n : ℕ) (xs : List X) → ((x : X) → P x → Q x)
    → AllBelow P n xs → ((x : X) → Q (slice_index_or xs n x)) → AllBelow Q (n + 1) xs
below_more {X} P Q n xs kept all last k x below = of_case (eq-or-lt_of_le (omega arith))
  where
    of_case : (k ≡ n) ⊎ (k < n) → Q (slice_index_or xs k x)
    of_case (inl same) = rw same (last x)
    of_case (inr less) = kept _ (all k x less)

-- the port of one place more has been met
pub seen_more : {X E : Type 0} (xs : List X) (seen_of : X → List E) (before after : List E) (n : ℕ)
    → StartsWith after before → AllBelow (λ x. StartsWith before (seen_of x)) n xs
    → ((x : X) → StartsWith after (seen_of (slice_index_or xs n x)))
    → AllBelow (λ x. StartsWith after (seen_of x)) (n + 1) xs
seen_more {X} xs seen_of before after n starts all last =
    below_more (λ (x : X). StartsWith before (seen_of x)) (λ (x : X). StartsWith after (seen_of x))
    n xs (λ x seen. starts_trans after before (seen_of x) starts seen) all last

-- the port of a place has been met
pub seen_here : {X E : Type 0} (xs old : List X) (seen_of : X → List E) (note after : List E)
    (n : ℕ) (d x : X) → xs ≡ old → n < length xs → note ≡ seen_of (slice_index_or xs n d)
    → StartsWith after note → StartsWith after (seen_of (slice_index_or old n x))
seen_here xs old seen_of note after n d x same below is starts =
    rw (← same, get_or_default xs n x d below, ← is) starts

-- a ledger that was shared
pub closes : {B : Type 0} (is_honest : B → Type 0) (is_marked : B → ℕ → Type 0)
    (keeps : B → ℕ → Outcome → Type 0)
    (known : Known LedgerRequest (LedgerAnswer B) (LedgerState B)) (desk : DeskState B)
    (ledger : LedgerState B) → ledger ≡ desk.ledger
    → Yields (λ (d : DeskState B). d.start) (Stands is_honest is_marked keeps)
    (IsLegalHistory is_honest is_marked keeps) known desk
    → Closes is_honest is_marked keeps known ledger
closes is_honest is_marked keeps known desk ledger same yields = record {
  start = desk.start;
  origin_is = yields.origin_is;
  calls = yields.history;
  seen = yields.seen;
  legal = yields.lawful;
  results = record {
    answers = yields.results.answers;
    last_is = same ∙ yields.results.last_is;
    grants = rw same yields.results.grants;
  };
}
