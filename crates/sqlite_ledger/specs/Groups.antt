-- Marks and outcomes that are written in one transaction.
--     mark_row          the row of a mark
--     IsMarkedAt        all trees that a crash may leave have the mark, with this second
--     IsEndedAt         all trees that a crash may leave have the outcome, with this second
--     AreTimed          marks and outcomes have one second, which the clock gave
--     IsInside          a transaction is open over the tables of a ledger
--     Begins            a transaction was begun, and no row changed
--     AddsGroup         marks and outcomes were added inside the transaction
--     LeavesNoMore      a crash leaves nothing that it did not leave before
--     CommitsAll        all that the connection saw is committed
--     LeavesOrCommits   a crash leaves what it left before, or all that the connection saw
use Rattle.std.specs.Prelude.{◌≡◌, ◌⊎◌, ℕ, ℤ, pos, true, List, [], ◌∷◌, IsTrue}
use Rattle.sqlite.specs.declared.types.Value.TheVariants.{Null, Int}
use Rattle.sqlite.specs.Order.{Row}
use Rattle.sqlite.specs.State.{State}
use Rattle.sqlite.specs.Tree.{Trees}
use Rattle.sqlite_rules.specs.Lists.{Has}
use Rattle.client_core.specs.declared.job.Outcome.{Outcome}
use Rattle.campaign_ledger.specs.declared.book.PlaceOutcome.{PlaceOutcome}
use Rattle.campaign_ledger.specs.Groups.{has, has_outcome}
use Rattle.sqlite_ledger.specs.Marks.{IsBegun}
use Rattle.sqlite_ledger.specs.Outcomes.{outcome_row}
use Rattle.sqlite_ledger.specs.Schema.{ledger_schema, begun_tree, outcome_tree}

-- the row of a mark: its key, and then its columns, of which the one of the key is NULL
abbrev pub mark_row : ℤ → ℕ → Row
mark_row place second = Int place ∷ Null ∷ Int (pos second) ∷ []

-- whether the mark of a place, with this second, is in all trees that a crash may leave
abbrev pub IsMarkedAt : (Trees → Type 0) → ℤ → ℕ → Type 0
IsMarkedAt may_leave place second = (db : Trees) → may_leave db
    → Has (db begun_tree) (mark_row place second)

-- whether this outcome of a place, with this second, is in all trees that a crash may leave
abbrev pub IsEndedAt : (Trees → Type 0) → ℤ → Outcome → ℕ → Type 0
IsEndedAt may_leave place outcome second = (db : Trees) → may_leave db
    → Has (db outcome_tree) (outcome_row place outcome (Int (pos second)))

-- Whether, in all trees that a crash may leave, the marks of these places and these outcomes have
-- one second, of which this holds.
pub record AreTimed (Gave : ℕ → Type 0) (may_leave : Trees → Type 0) (marks : List ℕ)
    (outcomes : List PlaceOutcome) : Type 0 where
  pub second : ℕ
  pub gave : Gave second
  pub marks_at : (place : ℕ) → has place marks ≡ true → IsMarkedAt may_leave (pos place) second
  pub outcomes_at : (place : ℕ) (outcome : Outcome) → has_outcome place outcome outcomes
      → IsEndedAt may_leave (pos place) outcome second

-- whether a transaction is open over the tables of a ledger
pub record IsInside (s : State) : Type 0 where
  pub schema : s.now.schema ≡ ledger_schema
  pub mode : s.in_transaction ≡ true
  pub is_open : IsTrue s.is_open

-- whether a transaction was begun, and the connection sees what it saw before
pub record Begins (old new : State) : Type 0 where
  pub was_open : IsTrue old.is_open
  pub inside : IsInside new
  pub now_is : new.now ≡ old.now

-- Whether the marks of these places, which had none, and these outcomes were added inside a
-- transaction, each with this second. The rows that were there remain.
pub record AddsGroup (old new : State) (second : ℕ) (marks : List ℕ)
    (outcomes : List PlaceOutcome) : Type 0 where
  pub inside : IsInside new
  pub fresh : (place : ℕ) → has place marks ≡ true → ¬ IsBegun old.now.trees (pos place)
  pub marked : (place : ℕ) → has place marks ≡ true
      → Has (new.now.trees begun_tree) (mark_row (pos place) second)
  pub recorded : (place : ℕ) (outcome : Outcome) → has_outcome place outcome outcomes
      → Has (new.now.trees outcome_tree) (outcome_row (pos place) outcome (Int (pos second)))
  pub marks_kept : (row : Row) → Has (old.now.trees begun_tree) row
      → Has (new.now.trees begun_tree) row
  pub outcomes_kept : (row : Row) → Has (old.now.trees outcome_tree) row
      → Has (new.now.trees outcome_tree) row

-- whether a crash leaves nothing that it did not leave before
abbrev pub LeavesNoMore : State → State → Type 0
LeavesNoMore old new = (db : Trees) → new.may_leave db → old.may_leave db

-- whether all that the connection saw is committed
pub record CommitsAll (old new : State) : Type 0 where
  pub is_open : IsTrue new.is_open
  pub committed : new.committed ≡ old.now
  pub now_is : new.now ≡ old.now

-- whether a crash leaves what it left before, or all that the connection saw
abbrev pub LeavesOrCommits : State → State → Type 0
LeavesOrCommits old new = (db : Trees) → new.may_leave db
    → old.may_leave db ⊎ (db ≡ old.now.trees)
