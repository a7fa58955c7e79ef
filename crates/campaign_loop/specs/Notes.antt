-- The jobs whose outcome is unknown, told apart by what was sent.
--     was_asked       whether the request of a place was given
--     unknown_text    the line of a job whose outcome is unknown
--     note_text       the line of a job, if its outcome is unknown
use Rattle.std.specs.Prelude.{ℕ, Bool, true, false, List, [], ◌++◌, codes, Option, Some, None}
use Rattle.client_core.specs.declared.job.Outcome.TheVariants.{Done, Refused, Rejected, Unknown}
use Rattle.head_end.specs.declared.row.Row.{Row}
use Rattle.head_end.specs.declared.row.Row.TheVariants.{Came, Memory}
use Rattle.head_end.specs.declared.row.ReportLine.{ReportLine}
use Rattle.campaign_board.specs.declared.place.Ending.{Ending}

-- whether the request of a place that may have ended was given
abbrev pub was_asked : Option Ending → Bool
was_asked None = false
was_asked (Some ending) = ending.was_asked

-- the line of a job whose outcome is unknown: its name, and whether its command may have been sent;
-- if not, whether a connection was opened
abbrev pub unknown_text : (name : List ℕ) → (asked reached : Bool) → List ℕ
unknown_text name true reached = name ++ codes " sent, no answer\n"
unknown_text name false true = name ++ codes " no association\n"
unknown_text name false false = name ++ codes " not reached\n"

-- the line of a job with this row, if its outcome is unknown; otherwise nothing
abbrev pub row_note : (name : List ℕ) → Row → (asked reached : Bool) → List ℕ
row_note name (Came Unknown) asked reached = unknown_text name asked reached
row_note name (Came (Done number)) asked reached = []
row_note name (Came (Refused number)) asked reached = []
row_note name (Came (Rejected number)) asked reached = []
row_note name Memory asked reached = []

-- the line of a job by its line of the report, its end, and whether its connection was opened
abbrev pub note_text : ReportLine → Option Ending → (reached : Bool) → List ℕ
note_text line ending reached = row_note line.id line.row (was_asked ending) reached
