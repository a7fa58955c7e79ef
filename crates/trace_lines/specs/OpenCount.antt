-- The line of the number of events: a number, or `-` if the events are all whole lines up to the
-- end of the text or its first byte 0. What follows the last whole line is then left out.
--     count_from       the number of events that a line states, or none
--     open_row         the line `events -`
--     counted_events   the number of events, and the place of their lines
--     count_at         the number of events at a place
use Rattle.std.specs.Prelude.{ℕ, nat_eq, codes, length, [], ◌∷◌, Option, Some, None, Result, Ok}
use Rattle.std.specs.Prelude.{if◌then◌else◌}
use Rattle.std.specs.Cmp.Lexicographic.{pointwise}
use Rattle.wire_bytes.specs.Outcome.{◌>>=◌}
use Rattle.trace_words.specs.Labels.{labelled_value}
use Rattle.trace_words.specs.Places.{Place, ReadLines, line_as}
use Rattle.trace_words.specs.Reading.{number_in}
use Rattle.trace_words.specs.Rows.{Row, Word}
use Rattle.trace_words.specs.WholeLines.{before_zero, whole_lines}
use Rattle.trace_words.specs.declared.fault.RowFault.{RowFault}
use Rattle.trace_lines.specs.Events.{max_events}

-- a number of events, or `-` for none
abbrev pub count_in : Word → Result (Option ℕ) RowFault
count_in word = if pointwise nat_eq word (codes "-") then Ok None else do
  count ← number_in max_events word
  Ok (Some count)

-- the number of events that a line states, or none
abbrev pub count_from : Row → Result (Option ℕ) RowFault
count_from row = labelled_value (codes "events") count_in row

-- the line that states no number
abbrev pub open_row : Row
open_row = codes "events" ∷ codes "-" ∷ []

-- the number of events, and the place of their lines: if none is stated, all whole lines
abbrev pub counted_events : Option ℕ → Place → ℕ × Place
counted_events (Some count) place = (count, place)
counted_events None place = (length (before_zero place.rows), whole_lines place)

-- the line of the number of events, at a place
unfoldable pub count_at : Place → ReadLines ℕ
count_at place = do
  counted ← line_as count_from place
  Ok (counted_events counted.0 counted.1)
