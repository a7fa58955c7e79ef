-- The text of a ledger in each format.
use Rattle.std.specs.Prelude.{ℕ, List}
use Rattle.ledger_reports.specs.Status.{status_text}
use Rattle.ledger_reports.specs.declared.line.LedgerLine.{LedgerLine}
use Rattle.ledger_records.specs.declared.format.LedgerFormat.{LedgerFormat}
use Rattle.ledger_records.specs.declared.format.LedgerFormat.TheVariants.{State, Csv, Json}
use Rattle.ledger_records.specs.Csv.{csv_text}
use Rattle.ledger_records.specs.Json.{json_rows}

-- the state of the campaign, or all jobs as records
abbrev pub text_in : LedgerFormat → List LedgerLine → List ℕ
text_in State lines = status_text lines
text_in Csv lines = csv_text lines
text_in Json lines = json_rows lines
