-- The jobs of a ledger as comma-separated values.
--     csv_head     the names of the columns
--     csv_line     a job in these columns
--     csv_text     all jobs, after the names of the columns
use Rattle.std.specs.Prelude.{ℕ, codes, decimal, option_map, flat_map, List, [], ◌∷◌, ◌++◌}
use Rattle.csv.specs.Writing.{default_writer, row_text}
use Rattle.record_parts.specs.Columns.{column}
use Rattle.client_core.specs.Verbs.{verb_word}
use Rattle.ledger_reports.specs.Status.{standing_of}
use Rattle.ledger_reports.specs.declared.line.LedgerLine.{LedgerLine}
use Rattle.ledger_records.specs.Fields.{answer_state, answer_time, outcome_number, outcome_word}
use Rattle.ledger_records.specs.Fields.{seconds_taken, sent_word, utc_text}

-- the names of the columns
abbrev pub csv_head : List ℕ
csv_head =
    row_text default_writer (codes "name" ∷ codes "address" ∷ codes "verb" ∷ codes "outcome"
    ∷ codes "number" ∷ codes "sent" ∷ codes "begun_at" ∷ codes "ended_at" ∷ codes "seconds"
    ∷ codes "state" ∷ codes "asked_at" ∷ [])

-- a job in these columns; a value that the ledger does not have is empty
abbrev pub csv_line : LedgerLine → List ℕ
csv_line line =
    row_text default_writer (line.job.id ∷ line.job.address ∷ verb_word line.job.verb
    ∷ outcome_word (standing_of line.entry)
    ∷ column (option_map decimal (outcome_number line.entry))
    ∷ sent_word (standing_of line.entry) ∷ column (option_map utc_text line.times.begun)
    ∷ column (option_map utc_text line.times.ended)
    ∷ column (option_map decimal (seconds_taken line.times))
    ∷ column (option_map decimal (answer_state line.answer))
    ∷ column (option_map utc_text (answer_time line.answer)) ∷ [])

-- all jobs, in their order
unfoldable pub csv_rows : List LedgerLine → List ℕ
csv_rows lines = flat_map csv_line lines

-- the names of the columns, then all jobs
abbrev pub csv_text : List LedgerLine → List ℕ
csv_text lines = csv_head ++ csv_rows lines
