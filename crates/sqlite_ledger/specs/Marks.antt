-- The marks of a ledger's file: the places whose command may have been sent.
--     IsBegun          the trees have the place's mark
--     IsMarked         all trees that a crash may leave have it
--     IsLeft           entries report the marks of the trees, and the outcomes of marked places
--     LeavesEntries    entries that the next run may find after a crash
--     LeavesCommit     while the connection is open, a crash leaves the last commit alone
--     left_marked      what is marked remains so after a crash
--     left_kept        the outcome of a marked place is its entry after a crash
use Rattle.std.specs.Prelude.{◌≡◌, ℕ, ℤ, pos, IsTrue}
use Rattle.std.proofs.Math.Logic.{∥∥₁_elim}
use mathlib.Core.Bool.{Bool-set}
use Rattle.std.specs.List.{list_any}
use Rattle.sqlite.specs.State.{State}
use Rattle.sqlite.specs.Tree.{Trees, has_rowid}
use Rattle.client_core.specs.declared.job.Outcome.{Outcome}
use Rattle.campaign_ledger.specs.declared.entry.LedgerEntry.{LedgerEntry}
use Rattle.campaign_ledger.specs.declared.entry.LedgerEntry.TheVariants.{Came}
use Rattle.campaign_ledger.specs.Entries.{HasGone}
use Rattle.sqlite_ledger.specs.EntryCode.{entry_set}
use Rattle.sqlite_ledger.specs.Outcomes.{IsRecorded, IsSafe}
use Rattle.sqlite_ledger.specs.Schema.{begun_tree}

-- whether a row of the table `begun` has the place as its key
abbrev pub IsBegun : Trees → ℤ → Type 0
IsBegun db place = IsTrue (list_any (has_rowid place) (db begun_tree))

-- whether a place has its mark in all trees that a crash may leave
abbrev pub IsMarked : (Trees → Type 0) → ℤ → Type 0
IsMarked may_leave place = (db : Trees) → may_leave db → IsBegun db place

-- Whether these entries report that the command of a place may have been sent exactly if the trees
-- have its mark. The outcome that the trees have of a marked place is its entry.
pub record IsLeft (db : Trees) (entries : ℕ → LedgerEntry) : Type 0 where
  pub gone : (place : ℕ) → IsBegun db (pos place) → HasGone (entries place)
  pub begun : (place : ℕ) → HasGone (entries place) → IsBegun db (pos place)
  pub came : (place : ℕ) (outcome : Outcome) → IsBegun db (pos place)
      → IsRecorded db (pos place) outcome → entries place ≡ Came outcome

-- whether a crash may leave trees whose marks and outcomes are those that these entries report
abbrev pub LeavesEntries : (Trees → Type 0) → (ℕ → LedgerEntry) → Type 0
LeavesEntries may_leave entries = (db : Trees) × ∥ may_leave db ∥₁ × IsLeft db entries

-- whether a crash leaves exactly the last commit while the connection is open
abbrev pub LeavesCommit : State → Type 0
LeavesCommit s = IsTrue s.is_open → (db : Trees) → s.may_leave db → db ≡ s.committed.trees

-- if a place has its mark in all trees that a crash may leave, the entries that the next run finds
-- report that its command may have been sent
pub left_marked : (may_leave : Trees → Type 0) (place : ℕ) (entries : ℕ → LedgerEntry)
    → IsMarked may_leave (pos place) → LeavesEntries may_leave entries → HasGone (entries place)
left_marked may_leave place entries down left = left.2.gone place
    (∥∥₁_elim left.1 (Bool-set _ _) (λ may. down left.0 may))

-- if a place has its mark and this outcome in all trees that a crash may leave, the outcome is the
-- entry that the next run finds
pub left_kept : (may_leave : Trees → Type 0) (place : ℕ) (outcome : Outcome)
    (entries : ℕ → LedgerEntry) → IsMarked may_leave (pos place)
    → IsSafe may_leave (pos place) outcome → LeavesEntries may_leave entries
    → entries place ≡ Came outcome
left_kept may_leave place outcome entries down safe left = ∥∥₁_elim left.1
    (entry_set _ _) (λ may. left.2.came place outcome (down left.0 may) (safe left.0 may))
