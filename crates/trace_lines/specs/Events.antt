-- The number of events, and the lines of events: one statement for their reading and text.
--     max_events, events_from      the number of events
--     event_forms, later_forms     the lines of events, by the first word
--     event_parts, event_format    the place of each event in the table, and its format
--     event_of                     the event of a line of words
use Rattle.std.specs.Prelude.{◌≡◌, ℕ, codes, map, length, List, Option, Some, None, Result}
use Rattle.std.specs.List.{zip}
use Rattle.std.proofs.Common.{inl, inr}
use Rattle.wire_bytes.specs.Choice.{on, otherwise, Parts, next_read}
use Rattle.wire_bytes.specs.Format.{empty, ◌&◌}
use Rattle.wire_bytes.specs.Outcome.{◌>>=◌}
use Rattle.lane_sampler.specs.Samples.{values_alone, pairs_of}
use Rattle.relay_events.specs.declared.event.Event.{Event}
use Rattle.relay_events.specs.declared.event.Event.TheVariants.{Get, GetList, Set, Execute, Button}
use Rattle.relay_events.specs.declared.event.Event.TheVariants.{Samples, Moment}
use Rattle.trace_words.specs.Labels.{labelled_value}
use Rattle.trace_words.specs.Parts.{Part, Forms, number_part, data_part, items_to_end, counted_items, only_if}
use Rattle.trace_words.specs.Parts.{same_word, one_of}
use Rattle.trace_words.specs.Reading.{number_in}
use Rattle.trace_words.specs.Rows.{Row, if_last}
use Rattle.trace_words.specs.declared.fault.RowFault.{RowFault}
use Rattle.trace_words.specs.declared.fault.RowFault.TheVariants.{Wrong}
use Rattle.trace_words.specs.declared.version.Version.{Version}
use Rattle.trace_words.specs.declared.version.Version.TheVariants.{One, Two}
use Rattle.trace_lines.specs.Parts.{level_part, method_part, selection_part, parameter_part}
use Rattle.trace_lines.specs.Parts.{sample_part, pair_part}

-- the maximum number of events of a trace
abbrev pub max_events : ℕ
max_events = 65536

-- the maximum number of attributes in a line
abbrev pub max_items : ℕ
max_items = 102

-- the number of events
abbrev pub events_from : Row → Result ℕ RowFault
events_from row = labelled_value (codes "events") (number_in max_events) row

-- the lines of both versions, and then others
abbrev pub event_forms : Forms Event → Forms Event
event_forms others =
    on (codes "get") (level_part & selection_part) (λ p. Get p.0 p.1.attr p.1.selected) (
    on (codes "getlist") (level_part & counted_items max_items selection_part) (λ p. GetList p.0
    p.1) (
    on (codes "set") (level_part & selection_part & data_part)
    (λ p. Set p.0 p.1.0.attr p.1.0.selected p.1.1) (
    on (codes "execute") (level_part & method_part & parameter_part)
    (λ p. Execute p.0 p.1.0 p.1.1) (
    on (codes "button") empty (λ nothing. Button) (
    on (codes "moment") (number_part 4294967295) Moment (
    on (codes "samples") (items_to_end 256 sample_part) (λ values. Samples (values_alone values)) (
    others)))))))

-- the lines that version 1 does not have
abbrev pub later_forms : Version → Forms Event
later_forms One = otherwise Wrong
later_forms Two =
    on (codes "pairs") (items_to_end 256 pair_part)
    (λ pairs. Samples (pairs_of (map (λ pair. pair.0) pairs) (map (λ pair. pair.1) pairs))) (
    otherwise Wrong)

-- the place of a block of samples in the table of version 2, and its parts: `samples` for imported
-- power alone, `pairs` for both
abbrev pub samples_parts : List ℕ → Option (List ℕ) → Parts (event_forms (later_forms Two))
samples_parts imports None = inr (inr (inr (inr (inr (inr (inl imports))))))
samples_parts imports (Some exports) =
    inr (inr (inr (inr (inr (inr (inr (inl (zip imports exports))))))))

-- the place of each event in the table of version 2, and its parts
abbrev pub event_parts : Event → Parts (event_forms (later_forms Two))
event_parts (Get level attr selected) = inl (level, record { attr = attr; selected = selected })
event_parts (GetList level items) = inr (inl (level, items))
event_parts (Set level attr selected value) =
    inr (inr (inl (level, (record { attr = attr; selected = selected }, value))))
event_parts (Execute level method parameter) = inr (inr (inr (inl (level, (method, parameter)))))
event_parts Button = inr (inr (inr (inr (inl tt))))
event_parts (Moment now) = inr (inr (inr (inr (inr (inl now)))))
event_parts (Samples block) = samples_parts block.import block.export

-- whether there are as many export samples as import samples
abbrev pub AreEven : List ℕ → Option (List ℕ) → Type 0
AreEven imports None = Unit {0}
AreEven imports (Some exports) = length imports ≡ length exports

-- whether a block of both powers has as many export samples as import samples; every other event is
-- even
abbrev pub IsEven : Event → Type 0
IsEven (Samples block) = AreEven block.import block.export
IsEven _ = Unit {0}

-- the line of an event in version 2
abbrev pub event_format : Part Event
event_format = only_if IsEven (one_of (event_forms (later_forms Two)) event_parts)

-- the event of a line of words
unfoldable pub event_of : Version → Row → Result Event RowFault
event_of version row = next_read same_word Wrong (event_forms (later_forms version)) row
    >>= λ event. if_last event.1 event.0
