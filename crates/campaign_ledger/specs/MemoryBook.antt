-- The view that contracts have of a book in memory.
--     MemoryState       its entries, the number of calls before one fails, and whether one failed
--     LeavesEntries     what a crash leaves: the present entries
--     IsMarked          the place is marked, or has an outcome
--     IsKept            the place has this outcome
--     EntersMarks       entries and the same after marks of places that had none
--     EntersOutcomes    entries and the same after outcomes of places that had none
--     left_marked       a crash leaves marked what is marked
--     left_kept         a crash leaves the outcomes
use Rattle.std.specs.Prelude.{◌≡◌, ◌<◌, ℕ, Bool, List, [], ◌∷◌, length, slice_set}
use Rattle.client_core.specs.declared.job.Outcome.{Outcome}
use Rattle.campaign_ledger.specs.declared.book.PlaceOutcome.{PlaceOutcome}
use Rattle.campaign_ledger.specs.declared.entry.LedgerEntry.{LedgerEntry}
use Rattle.campaign_ledger.specs.declared.entry.LedgerEntry.TheVariants.{NotSent, MaybeSent, Came}
use Rattle.campaign_ledger.specs.Entries.{HasGone, HasCome, entry_at}

-- A book in memory: its entries, the number of calls before one fails, and whether one failed.
pub record MemoryState : Type 0 where
  pub entries : List LedgerEntry
  pub calls_left : ℕ
  pub has_failed : Bool

-- whether a crash leaves the present entries, each at its place
abbrev pub LeavesEntries : List LedgerEntry → (ℕ → LedgerEntry) → Type 0
LeavesEntries entries left = (place : ℕ) → left place ≡ entry_at entries place

-- whether the place is marked, or has an outcome
abbrev pub IsMarked : List LedgerEntry → ℕ → Type 0
IsMarked entries place = HasGone (entry_at entries place)

-- whether the place has this outcome
abbrev pub IsKept : List LedgerEntry → ℕ → Outcome → Type 0
IsKept entries place outcome = entry_at entries place ≡ Came outcome

-- whether the new entries are the old ones after these places were marked one after the other, each
-- of which had the entry `NotSent` then
abbrev pub EntersMarks : List ℕ → (old new : List LedgerEntry) → Type 0
EntersMarks [] old new = new ≡ old
EntersMarks (place ∷ places) old new = (entry_at old place ≡ NotSent)
    × EntersMarks places (slice_set old place MaybeSent) new

-- whether the new entries are the old ones after these outcomes were set one after the other, each
-- of a place that had none then
abbrev pub EntersOutcomes : List PlaceOutcome → (old new : List LedgerEntry) → Type 0
EntersOutcomes [] old new = new ≡ old
EntersOutcomes (ended ∷ later) old new = (ended.place < length old)
    × (¬ HasCome (entry_at old ended.place))
    × EntersOutcomes later (slice_set old ended.place (Came ended.outcome)) new

-- a crash leaves marked what is marked
pub left_marked : (entries : List LedgerEntry) (place : ℕ) (left : ℕ → LedgerEntry)
    → IsMarked entries place → LeavesEntries entries left → HasGone (left place)
left_marked entries place left marked leaves = rw (leaves place) marked

-- a crash leaves the outcomes
pub left_kept : (entries : List LedgerEntry) (place : ℕ) (outcome : Outcome)
    (left : ℕ → LedgerEntry) → IsKept entries place outcome → LeavesEntries entries left
    → left place ≡ Came outcome
left_kept entries place outcome left kept leaves = rw (leaves place) kept
