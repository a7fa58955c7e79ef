-- Entries as lists of numbers, so that an equation of two entries is a proposition.
--     entry_set         two proofs of an equation of entries are equal
use Rattle.std.specs.Prelude.{◌≡◌, ℕ, List, [], ◌∷◌, refl}
use Rattle.std.specs.Coded.{Coded-set, code_by, coded_list, coded_ℕ}
use Rattle.client_core.specs.declared.job.Outcome.TheVariants.{Done, Refused, Rejected, Unknown}
use Rattle.campaign_ledger.specs.declared.entry.LedgerEntry.{LedgerEntry}
use Rattle.campaign_ledger.specs.declared.entry.LedgerEntry.TheVariants.{NotSent, MaybeSent, Came}

-- the numbers of an entry: their count is that of its kind, and the first is that of its outcome
abbrev numbers : LedgerEntry → List ℕ
numbers NotSent = []
numbers MaybeSent = 0 ∷ []
numbers (Came Unknown) = 0 ∷ 0 ∷ []
numbers (Came (Done state)) = state ∷ 0 ∷ 0 ∷ []
numbers (Came (Refused code)) = code ∷ 0 ∷ 0 ∷ 0 ∷ []
numbers (Came (Rejected diagnostic)) = diagnostic ∷ 0 ∷ 0 ∷ 0 ∷ 0 ∷ []

-- the entry of these numbers
abbrev entry_of : List ℕ → LedgerEntry
entry_of [] = NotSent
entry_of (a ∷ []) = MaybeSent
entry_of (a ∷ b ∷ []) = Came Unknown
entry_of (state ∷ a ∷ b ∷ []) = Came (Done state)
entry_of (code ∷ a ∷ b ∷ c ∷ []) = Came (Refused code)
entry_of (diagnostic ∷ a ∷ b ∷ c ∷ d ∷ more) = Came (Rejected diagnostic)

-- the numbers of an entry are those of no other
entry_again : (entry : LedgerEntry) → entry_of (numbers entry) ≡ entry
entry_again NotSent = refl
entry_again MaybeSent = refl
entry_again (Came Unknown) = refl
entry_again (Came (Done state)) = refl
entry_again (Came (Refused code)) = refl
entry_again (Came (Rejected diagnostic)) = refl

-- two proofs of an equation of entries are equal
pub entry_set : IsSet LedgerEntry
entry_set = Coded-set (code_by (List ℕ) (coded_list coded_ℕ) numbers entry_of entry_again)
