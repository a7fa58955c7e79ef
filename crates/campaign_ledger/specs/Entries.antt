-- The entries of a ledger for the places of its campaign.
--     HasGone           the command of a place may have been sent
--     HasCome           the outcome of a place is known
--     entry_at          the entry of a place in a list of entries
--     entry_after_begin the entry of a place after its permit was asked for
use Rattle.std.specs.Prelude.{ℕ, List, slice_index_or, ⊤}
use Rattle.campaign_ledger.specs.declared.entry.LedgerEntry.{LedgerEntry}
use Rattle.campaign_ledger.specs.declared.entry.LedgerEntry.TheVariants.{NotSent, MaybeSent, Came}

-- whether the command may have been sent, by the entry of its place
abbrev pub HasGone : LedgerEntry → Type 0
HasGone NotSent = ⊥
HasGone MaybeSent = ⊤
HasGone (Came outcome) = ⊤

-- whether the outcome is known, by the entry of its place
abbrev pub HasCome : LedgerEntry → Type 0
HasCome NotSent = ⊥
HasCome MaybeSent = ⊥
HasCome (Came outcome) = ⊤

-- The entry of a place. A place after the last has none, and nothing may be sent for it: it counts
-- as one whose command may have been sent.
abbrev pub entry_at : List LedgerEntry → ℕ → LedgerEntry
entry_at entries place = slice_index_or entries place MaybeSent

-- The entry of a place after its permit was asked for: its command may have been sent now, and an
-- outcome that is known stays known.
abbrev pub entry_after_begin : LedgerEntry → LedgerEntry
entry_after_begin NotSent = MaybeSent
entry_after_begin MaybeSent = MaybeSent
entry_after_begin (Came outcome) = Came outcome
