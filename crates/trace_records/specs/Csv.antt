-- A record as a line of comma-separated values.
--     csv_head     the names of the columns
--     csv_line     the values of a record in these columns
use Rattle.std.specs.Prelude.{ℕ, Bool, true, false, codes, decimal, option_map, List, [], ◌∷◌}
use Rattle.std.specs.Prelude.{Option, Some, None}
use Rattle.csv.specs.Writing.{default_writer, row_text}
use Rattle.cosem_datetime.specs.Calendar.{first_day_of_2000}
use Rattle.trace_lines.specs.Replies.{supply_text}
use Rattle.record_parts.specs.Civil.{civil_text}
use Rattle.record_parts.specs.Columns.{column}
use Rattle.trace_records.specs.Records.{Fields}

-- the last column, if there is one
abbrev pub last_column : Option (List ℕ) → List (List ℕ)
last_column (Some text) = text ∷ []
last_column None = []

-- the name of the column of the events, if they are shown
abbrev pub event_name : Bool → Option (List ℕ)
event_name true = Some (codes "event")
event_name false = None

-- the names of the columns
abbrev pub csv_head : Bool → List ℕ
csv_head with_events =
    row_text default_writer (codes "number" ∷ codes "reply" ∷ codes "state" ∷ codes "supply"
    ∷ codes "moment" ∷ codes "time" ∷ last_column (event_name with_events))

-- the values of a record; the moment in seconds, and as a civil date and time
abbrev pub csv_line : Fields → List ℕ
csv_line r =
    row_text default_writer (decimal r.number ∷ r.reply ∷ decimal r.state ∷ supply_text r.output
    ∷ column (option_map decimal r.moment)
    ∷ column (option_map (civil_text first_day_of_2000) r.moment)
    ∷ last_column r.event)
