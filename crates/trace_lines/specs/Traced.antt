-- The events that a trace can hold: numbers in the ranges of their types, and within the limits of
-- a line.
--     IsTraced                 an event whose line is read back
--     FitsLine                 an event within the limits of a line, whose line is then read back
--     IsNamed, HasPlainData    an event whose line has no byte 0 or 0A, as that of each event
--                              that a program can hold
use Rattle.std.specs.Prelude.{◌≤◌, length, IfSome}
use Rattle.relay_events.specs.declared.event.Event.{Event}
use Rattle.relay_events.specs.declared.event.Event.TheVariants.{Get, GetList, Set, Execute}
use Rattle.text_lines.specs.Lines.{IsPlain}
use Rattle.trace_words.specs.Parts.{Each}
use Rattle.trace_words.specs.Writing.{IsHeld, data_word}
use Rattle.trace_lines.specs.Events.{max_items, event_format}
use Rattle.trace_lines.specs.Parts.{attribute_part, method_part, selection_part}
use Rattle.trace_lines.specs.Reading.{parameter_word}

-- whether the line of an event is read back
unfoldable pub IsTraced : Event → Type 0
IsTraced event = event_format.Fits event

-- whether an event is within the limits of a line: a list has at most 102 attributes, and a value
-- or a parameter is within the limits of a written Data
abbrev pub FitsLine : Event → Type 0
FitsLine (GetList level items) = length items ≤ max_items
FitsLine (Set level attr selected value) = IsHeld value
FitsLine (Execute level method parameter) = IfSome parameter IsHeld
FitsLine _ = Unit {0}

-- whether the numbers and the bytes of its names are in the ranges of their types
abbrev pub IsNamed : Event → Type 0
IsNamed (Get level attr selected) = attribute_part.Fits attr
IsNamed (GetList level items) = Each selection_part.Fits items
IsNamed (Set level attr selected value) = attribute_part.Fits attr
IsNamed (Execute level method parameter) = method_part.Fits method
IsNamed _ = Unit {0}

-- whether the word of its Data has no byte 0 or 0A
abbrev pub HasPlainData : Event → Type 0
HasPlainData (Set level attr selected value) = IsPlain (data_word value)
HasPlainData (Execute level method parameter) = IsPlain (parameter_word parameter)
HasPlainData _ = Unit {0}
