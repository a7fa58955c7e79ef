-- What the calls on a ledger give between two of its states.
--     LedgerState       the view that contracts have of a ledger
--     permits_in        the places of the permits that a call returned
--     Grants            the permits given between two states, and what is durable then
--     IsFoundBy         the entries that a run found are on its disk
--     MakesSafeRuns     the permits given since the start of a run make it safe
use Rattle.std.specs.Prelude.{◌≡◌, ℕ, Bool, List, [], ◌∷◌, Option, Some, None, Result, Ok, Err}
use Rattle.campaign_ledger.specs.declared.entry.LedgerEntry.{LedgerEntry}
use Rattle.campaign_ledger.specs.declared.entry.LedgerEntry.TheVariants.{NotSent}
use Rattle.campaign_ledger.specs.Entries.{HasGone, entry_at}
use Rattle.campaign_ledger.specs.Runs.{IsIn, AreApart, IsSafeRun}

-- A ledger: its book, the entry of each place, and whether a call has failed.
pub record LedgerState (B : Type 0) : Type 0 where
  pub book : B
  pub entries : List LedgerEntry
  pub has_failed : Bool

-- the places of the permits that a call returned
abbrev pub permits_in : {F : Type 0} → Result (Option ℕ) F → List ℕ
permits_in (Ok (Some place)) = place ∷ []
permits_in (Ok None) = []
permits_in (Err fault) = []

module _ {B : Type 0} (is_honest : B → Type 0) (is_marked : B → ℕ → Type 0) where
  -- Whether the ledger gave permits for these places between the two states, each at most once, and
  -- only for places whose entry said that no command was sent. If the book is honest, none of them
  -- was marked before, and all of them are now. What had gone and what was marked remains so.
  pub record Grants (before after : LedgerState B) (permits : List ℕ) : Type 0 where
    pub apart : AreApart permits
    pub not_sent : (place : ℕ) → IsIn place permits → entry_at before.entries place ≡ NotSent
    pub gone : (place : ℕ) → IsIn place permits → HasGone (entry_at after.entries place)
    pub remains_gone : (place : ℕ) → HasGone (entry_at before.entries place)
        → HasGone (entry_at after.entries place)
    pub honest : is_honest after.book → is_honest before.book
    pub fresh : is_honest after.book → (place : ℕ) → IsIn place permits
        → ¬ is_marked before.book place
    pub durable : is_honest after.book → (place : ℕ) → IsIn place permits
        → is_marked after.book place
    pub remains_marked : is_honest after.book → (place : ℕ) → is_marked before.book place
        → is_marked after.book place

  -- whether each place whose command may have been sent, by the entries found, is marked on the
  -- disk
  abbrev pub IsFoundBy : (ℕ → LedgerEntry) → B → Type 0
  IsFoundBy found book = (place : ℕ) → HasGone (found place) → is_marked book place

  -- If the commands of these places were sent with permits that the ledger gave since the start of
  -- the run, each once, then the run is safe, whatever the run found at its start and a crash in
  -- the present state leaves.
  abbrev pub MakesSafeRuns : (B → (ℕ → LedgerEntry) → Type 0) → LedgerState B → LedgerState B
      → List ℕ → Type 0
  MakesSafeRuns may_leave start now sent = is_honest now.book → (found left : ℕ → LedgerEntry)
      → IsFoundBy found start.book → may_leave now.book left
      → IsSafeRun record { found = found; sent = sent; left = left }
