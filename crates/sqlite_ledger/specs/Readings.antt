-- What is read of the marks and the outcomes of a ledger's file.
--     select_begun       the query of all marks
--     select_outcomes    the query of all outcomes
--     IsMarkRow          the place of a mark, and the entry that it makes
--     IsOutcomeRow       the place of an outcome, and the entry that it makes
--     Enters             what rows make of a list, each at its place
--     EntersShown        what the rows that a query shows make of it
--     ShowsEntries       the entries that the marks and the outcomes make of those of unsent jobs
use Rattle.std.specs.Prelude.{◌≡◌, ◌<◌, ℕ, pos, List, [], ◌∷◌, codes, length, replicate, slice_set}
use Rattle.sqlite.specs.declared.types.Value.TheVariants.{Int, Text as Words}
use Rattle.sqlite.specs.Order.{Row, column}
use Rattle.sqlite.specs.State.{State, Shown}
use Rattle.client_core.specs.declared.job.Outcome.{Outcome}
use Rattle.campaign_ledger.specs.declared.entry.LedgerEntry.{LedgerEntry}
use Rattle.campaign_ledger.specs.declared.entry.LedgerEntry.TheVariants.{NotSent, MaybeSent, Came}
use Rattle.sqlite_ledger.specs.Outcomes.{kind_of, number_of}

-- the query of all marks
abbrev pub select_begun : List ℕ
select_begun = codes "SELECT place FROM begun"

-- the query of all outcomes
abbrev pub select_outcomes : List ℕ
select_outcomes = codes "SELECT place, kind, number FROM outcome"

-- whether a row is the mark of a place, and this the entry of a place that has a mark alone
abbrev pub IsMarkRow : Row → ℕ → LedgerEntry → Type 0
IsMarkRow row place entry = (column row 0 ≡ Int (pos place)) × (entry ≡ MaybeSent)

-- whether a row is the outcome of a place, and this the entry that has it
abbrev pub IsOutcomeRow : Row → ℕ → LedgerEntry → Type 0
IsOutcomeRow row place entry = (outcome : Outcome) × (column row 0 ≡ Int (pos place))
    × (column row 1 ≡ Words (kind_of outcome)) × (column row 2 ≡ number_of outcome)
    × (entry ≡ Came outcome)

-- whether the new list is the old one after each of these rows, one after the other, has set the
-- item at its place
abbrev pub Enters : {A : Type 0} → (Row → ℕ → A → Type 0) → List Row → (old new : List A) → Type 0
Enters IsRow [] old new = new ≡ old
Enters IsRow (row ∷ rows) old new = (place : ℕ) × (item : _) × IsRow row place item
    × (place < length old) × Enters IsRow rows (slice_set old place item) new

-- whether the new list is the old one after the rows that a query shows have set theirs
pub record EntersShown {A : Type 0} (query : List ℕ) (IsRow : Row → ℕ → A → Type 0)
    (before after : State) (old new : List A) : Type 0 where
  pub rows : List Row
  pub shown : Shown query [] before after rows
  pub enters : Enters IsRow rows old new

-- Whether these are the entries of this number of jobs: no command was sent but those of the marks
-- that were shown, and then the outcomes that were shown have set theirs.
pub record ShowsEntries {H : Type 0} (state_of : H → State) (before after : H) (jobs : ℕ)
    (entries : List LedgerEntry) : Type 0 where
  pub between : H
  pub marked : List LedgerEntry
  pub marks : EntersShown select_begun IsMarkRow (state_of before) (state_of between)
      (replicate jobs NotSent) marked
  pub outcomes : EntersShown select_outcomes IsOutcomeRow (state_of between) (state_of after) marked
      entries
