-- The texts of version 2, and what they contain apart from the values of type Data in the lines of
-- their opening.
--     IsOfVersionTwo    a text of version 2
--     IsCounted         a text that states the number of its events
--     text_with         the text of a trace with other values of type Data
use Rattle.std.specs.Prelude.{◌≡◌, ℕ, codes, List, ◌∷◌, ◌++◌, length, map}
use Rattle.relay_recorder.specs.declared.trace.Trace.{Trace}
use Rattle.trace_openings.specs.OpeningForms.{Forms, rows_with}
use Rattle.trace_lines.specs.OpenCount.{open_row}
use Rattle.trace_words.specs.Labels.{number_row}
use Rattle.trace_words.specs.Rows.{Row}
use Rattle.trace_lines.specs.Writing.{event_row}
use Rattle.text_lines.specs.Lines.{rows_of, rows_text}

-- whether the first line of a text has version 2
abbrev pub IsOfVersionTwo : List ℕ → Type 0
IsOfVersionTwo text = (rows : List Row) × (rows_of text ≡ number_row (codes "RELAYTRACE") 2 ∷ rows)

-- whether no line of a text is `events -`, so that it states the number of its events
abbrev pub IsCounted : List ℕ → Type 0
IsCounted text = (before after : List Row) → rows_of text ≡ before ++ open_row ∷ after → ⊥

-- the text that is written for a trace, but with these values of type Data in the lines of its
-- opening
abbrev pub text_with : Trace → Forms → List ℕ
text_with trace forms =
    rows_text (rows_with trace.opening forms ++ number_row (codes "events") (length trace.events)
    ∷ map event_row trace.events)
