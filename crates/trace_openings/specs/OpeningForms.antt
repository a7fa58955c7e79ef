-- The values of type Data in the lines of an opening. A script table, and the entries of a
-- schedule, are written in one form and read in others that mean the same: a start, a time or a
-- date may have its own tag instead of an octet-string's, and the parameter of a method may be
-- null-data or any integer instead of the integer 0.
--     Forms             the values of type Data in the lines of an opening
--     written_forms     the values that are written
--     AreFormsOf        values that are read as the opening's table and entries
--     rows_with         the lines that are written, but with these values of type Data
use Rattle.std.specs.Prelude.{◌≡◌, ℕ, codes, decimal, List, [], ◌∷◌, ◌++◌, take, Ok}
use Rattle.action_schedule.specs.Kinds.{number_of}
use Rattle.action_schedule.specs.Reading.{entries_of}
use Rattle.action_schedule.specs.Schedule.{Schedule}
use Rattle.action_schedule.specs.Writing.{entries_data}
use Rattle.cosem_axdr.specs.declared.value.Data.{Data}
use Rattle.relay_core.specs.declared.opening.Opening.{Opening}
use Rattle.script_steps.specs.Reading.{table_of}
use Rattle.script_steps.specs.Writing.{data_of}
use Rattle.trace_openings.specs.OpeningRows.{opening_rows}
use Rattle.trace_words.specs.Rows.{Row}
use Rattle.trace_words.specs.Writing.{data_word}

-- the Data of the script table, and that of the entries of each schedule
pub record Forms : Type 0 where
  pub table : Data
  pub first : Data
  pub second : Data
  pub third : Data
  pub fourth : Data

-- the values of type Data that are written for an opening
abbrev pub written_forms : Opening → Forms
written_forms opening = record {
  table = data_of opening.scripts;
  first = entries_data opening.schedules.first.entries;
  second = entries_data opening.schedules.second.entries;
  third = entries_data opening.schedules.third.entries;
  fourth = entries_data opening.schedules.fourth.entries;
}

-- whether these values are read as the script table and the entries of the opening's schedules
pub record AreFormsOf (opening : Opening) (forms : Forms) : Type 0 where
  pub table : table_of forms.table ≡ Ok opening.scripts
  pub first : entries_of forms.first ≡ Ok opening.schedules.first.entries
  pub second : entries_of forms.second ≡ Ok opening.schedules.second.entries
  pub third : entries_of forms.third ≡ Ok opening.schedules.third.entries
  pub fourth : entries_of forms.fourth ≡ Ok opening.schedules.fourth.entries

-- the line of a schedule whose entries are this Data
abbrev pub entries_row : ℕ → Schedule → Data → Row
entries_row number schedule entries =
    codes "schedule" ∷ decimal number ∷ decimal schedule.selector
    ∷ decimal (number_of schedule.kind) ∷ data_word entries ∷ []

-- the 25 lines before that of the script table as they are written, followed by the last five with
-- these values of type Data
unfoldable pub rows_with : Opening → Forms → List Row
rows_with opening forms =
    take 25 (opening_rows opening)
    ++ (codes "scripts" ∷ data_word forms.table ∷ [])
    ∷ entries_row 0 opening.schedules.first forms.first
    ∷ entries_row 1 opening.schedules.second forms.second
    ∷ entries_row 2 opening.schedules.third forms.third
    ∷ entries_row 3 opening.schedules.fourth forms.fourth
    ∷ []
