-- The jobs whose outcome is unknown, told apart by their entries.
--     unknown_text      the line of a job whose outcome is unknown
--     note_text         the line of a job, if its outcome is unknown
use Rattle.std.specs.Prelude.{ℕ, List, [], ◌++◌, codes}
use Rattle.client_core.specs.declared.job.Outcome.TheVariants.{Done, Refused, Rejected, Unknown}
use Rattle.campaign_ledger.specs.declared.entry.LedgerEntry.{LedgerEntry}
use Rattle.campaign_ledger.specs.declared.entry.LedgerEntry.TheVariants.{NotSent, MaybeSent}
use Rattle.campaign_ledger.specs.declared.entry.LedgerEntry.TheVariants as entry
use Rattle.head_end.specs.declared.row.Row.{Row}
use Rattle.head_end.specs.declared.row.Row.TheVariants.{Came, Memory}
use Rattle.head_end.specs.declared.row.ReportLine.{ReportLine}

-- the line of a job whose outcome is unknown: its name, and whether its command may have been sent,
-- by its entry
abbrev pub unknown_text : List ℕ → LedgerEntry → List ℕ
unknown_text id NotSent = id ++ codes " not reached\n"
unknown_text id MaybeSent = id ++ codes " sent, no answer\n"
unknown_text id (entry.Came outcome) = id ++ codes " sent, no answer\n"

-- the line of a job with this row, if its outcome is unknown; otherwise nothing
abbrev pub row_note : List ℕ → Row → LedgerEntry → List ℕ
row_note id (Came Unknown) entry = unknown_text id entry
row_note id (Came (Done number)) entry = []
row_note id (Came (Refused number)) entry = []
row_note id (Came (Rejected number)) entry = []
row_note id Memory entry = []

-- the line of a job in the list of unknown outcomes, from its report line; nothing if its outcome
-- is known
abbrev pub note_text : ReportLine → LedgerEntry → List ℕ
note_text line entry = row_note line.id line.row entry
