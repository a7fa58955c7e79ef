-- The runs of a campaign on one ledger, each of which may end in a crash.
--     Run                    what a run found, the places whose commands it sent, and what its end
--                            left
--     IsSafeRun              the commands sent are of places that had none, each once, and marked
--     AreConsecutiveRuns     runs, the last one first, each of which found what the one before left
--     all_sent               the places of all commands that the runs sent
use Rattle.std.specs.Prelude.{◌≡◌, ◌⊎◌, ℕ, List, [], ◌∷◌, ◌++◌, ⊤}
use Rattle.campaign_ledger.specs.declared.entry.LedgerEntry.{LedgerEntry}
use Rattle.campaign_ledger.specs.declared.entry.LedgerEntry.TheVariants.{NotSent}
use Rattle.campaign_ledger.specs.Entries.{HasGone}

-- whether the place is in the list
abbrev pub IsIn : ℕ → List ℕ → Type 0
IsIn place [] = ⊥
IsIn place (first ∷ places) = (place ≡ first) ⊎ IsIn place places

-- whether no place occurs twice
abbrev pub AreApart : List ℕ → Type 0
AreApart [] = ⊤
AreApart (place ∷ places) = (¬ IsIn place places) × AreApart places

-- One run: what it found, the places whose commands it sent, and what its end left, be it a crash
-- or not.
pub record Run : Type 0 where
  pub found : ℕ → LedgerEntry
  pub sent : List ℕ
  pub left : ℕ → LedgerEntry

-- Whether a run sent the command of a place at most once, and only if none was sent before. It left
-- each of these places marked, and each that it found marked.
pub record IsSafeRun (run : Run) : Type 0 where
  pub apart : AreApart run.sent
  pub fresh : (place : ℕ) → IsIn place run.sent → run.found place ≡ NotSent
  pub marks_sent : (place : ℕ) → IsIn place run.sent → HasGone (run.left place)
  pub keeps_marks : (place : ℕ) → HasGone (run.found place) → HasGone (run.left place)

-- whether each run is safe and found what the one before it left; the last run is first in the list
abbrev pub AreConsecutiveRuns : List Run → Type 0
AreConsecutiveRuns [] = ⊤
AreConsecutiveRuns (run ∷ []) = IsSafeRun run
AreConsecutiveRuns (run ∷ (before ∷ runs)) = IsSafeRun run × (run.found ≡ before.left)
    × AreConsecutiveRuns (before ∷ runs)

-- the places of all commands that the runs sent
abbrev pub all_sent : List Run → List ℕ
all_sent [] = []
all_sent (run ∷ runs) = run.sent ++ all_sent runs
