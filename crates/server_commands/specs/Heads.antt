-- The trace at the head of an input.
--     TakesHead     the trace was read, and no more
--     HasHead       the input begins with a trace that states the number of its events
--     HasNoTrace    the input does not begin with such a trace
--     IsTextFault   why the text that was read of an input is not its trace
--     IsHeadFault   why no trace was read
--     IsReadFault   why a line was not read
--     Grows         a text grew by the bytes that were read
--     IsLine        bytes that are one line
--     IsLaidOut     the lines of a trace
--     Ahead         the lines of a trace that are still to be read
use Rattle.std.specs.Prelude.{◌≡◌, ℕ, suc, Bool, true, false, codes, List, [], ◌∷◌, Option, Some, Ok, Err, ◌++◌, length, IfSome, ⊤}
use Rattle.std.specs.Io.KnownBytes.{Consumes}
use Rattle.counted_io.specs.declared.fault.InputFault.{InputFault}
use Rattle.counted_io.specs.declared.fault.InputFault.TheVariants as input_fault
use Rattle.relay_core.specs.Opening.{IsFitOpening}
use Rattle.relay_recorder.specs.declared.trace.Trace.{Trace}
use Rattle.server_commands.specs.declared.plan_fault.PlanFault.{PlanFault}
use Rattle.server_commands.specs.declared.plan_fault.PlanFault.TheVariants as fault
use Rattle.trace_openings.specs.OpeningFields.{version_from}
use Rattle.trace_lines.specs.Events.{events_from}
use Rattle.trace_words.specs.Rows.{Row}
use Rattle.trace_words.specs.declared.fault.TraceFault.TheVariants as trace_fault
use Rattle.trace_words.specs.declared.version.Version.{Version}
use Rattle.trace_words.specs.declared.version.Version.TheVariants.{One, Two}
use Rattle.trace_player.specs.Traces.{trace_of}
use Rattle.trace_player.specs.Versions.{IsCounted}
use Rattle.text_lines.specs.Lines.{rows_of, unended_of}
use Rattle.text_lines.specs.Words.{words_of}

-- whether the bytes of a whole trace were read from the input, and no more
pub record TakesHead (left : Option (List ℕ)) (trace : Trace) (left' : Option (List ℕ)) : Type 0
  where
    pub text : List ℕ
    pub read : Consumes left left' text
    pub told : trace_of text ≡ Ok trace
    pub fit : IsFitOpening trace.opening

-- whether the first of these bytes are the text of a trace that states the number of its events
pub record HasHead (bytes : List ℕ) : Type 0 where
  pub text : List ℕ
  pub rest : List ℕ
  pub cut : bytes ≡ text ++ rest
  pub counted : IsCounted text
  pub trace : Trace
  pub told : trace_of text ≡ Ok trace

-- whether the input does not begin with such a trace
abbrev pub HasNoTrace : Option (List ℕ) → Type 0
HasNoTrace left = IfSome left (λ bytes. ¬ (HasHead bytes))

-- whether this is why a text is not the trace of an input, by whether it has the lines of a trace
-- that states the number of its events: its first wrong or missing line, or a trace that does not
-- state that number, which is the head of a journal
abbrev pub IsTextFault : List ℕ → Bool → PlanFault → Type 0
IsTextFault text counted (fault.Line number) = trace_of text ≡ Err (trace_fault.Line number)
IsTextFault text counted fault.Journal = (counted ≡ false)
    × ((trace : Trace) × (trace_of text ≡ Ok trace))
IsTextFault text counted fault.TooLong = trace_of text ≡ Err trace_fault.TooLong
IsTextFault text counted fault.Memory = ⊤
IsTextFault text counted fault.Password = ⊥
IsTextFault text counted fault.Device = ⊥
IsTextFault text counted fault.Depth = ⊥
IsTextFault text counted fault.Read = ⊥

-- whether the first bytes of the input, all that were read, are a text with this fault
pub record StartsWrong (left : Option (List ℕ)) (f : PlanFault) : Type 0 where
  pub text : List ℕ
  pub left' : Option (List ℕ)
  pub read : Consumes left left' text
  pub told : IsTextFault text false f

-- whether this is why a trace is not read: there is none, a read of the stream failed, or out of
-- memory
abbrev pub IsHeadFault : Option (List ℕ) → Bool → PlanFault → Type 0
IsHeadFault left failed (fault.Line number) = HasNoTrace left × StartsWrong left (fault.Line number)
IsHeadFault left failed fault.Journal = HasNoTrace left × StartsWrong left fault.Journal
IsHeadFault left failed fault.TooLong = HasNoTrace left
IsHeadFault left failed fault.Read = failed ≡ true
IsHeadFault left failed fault.Memory = ⊤
IsHeadFault left failed fault.Password = ⊥
IsHeadFault left failed fault.Device = ⊥
IsHeadFault left failed fault.Depth = ⊥

-- whether this is why a line is not read, by whether a read of the stream failed
abbrev pub IsReadFault : Bool → InputFault → Type 0
IsReadFault failed input_fault.TooLong = ⊤
IsReadFault failed input_fault.Read = failed ≡ true
IsReadFault failed input_fault.Memory = ⊤

-- whether a text was extended by the bytes that were read
pub record Grows (text : List ℕ) (left : Option (List ℕ)) (text' : List ℕ) (left' : Option (List ℕ))
    : Type 0 where
  pub bytes : List ℕ
  pub read : Consumes left left' bytes
  pub added : text' ≡ text ++ bytes

-- whether bytes are one line of these words
pub record IsLine (bytes : List ℕ) (row : Row) : Type 0 where
  pub line : List ℕ
  pub ended : bytes ≡ line ++ 10 ∷ []
  pub words : words_of line ≡ row
  pub alone : rows_of bytes ≡ row ∷ []

-- the number of lines before the number of events
abbrev pub lines_before : Version → ℕ
lines_before One = 20
lines_before Two = 30

-- the first line of a text of this version
abbrev pub first_line : Version → List ℕ
first_line One = codes "RELAYTRACE 1" ++ 10 ∷ []
first_line Two = codes "RELAYTRACE 2" ++ 10 ∷ []

-- whether the lines of a text have the number that a trace has: those before the number of events,
-- that one, and one for each event
pub record IsLaidOut (text : List ℕ) : Type 0 where
  pub version : Version
  pub count : ℕ
  pub first : Row
  pub opening : List Row
  pub events_row : Row
  pub events : List Row
  pub rows : rows_of text ≡ (first ∷ []) ++ (opening ++ (events_row ∷ (events ++ [])))
  pub ended : unended_of text ≡ []
  pub told : version_from first ≡ Ok version
  pub before : suc (length opening) ≡ lines_before version
  pub counted : events_from events_row ≡ Ok count
  pub all : length events ≡ count

-- the lines from that of the number of events on
abbrev pub rows_from_count : {text : List ℕ} → IsLaidOut text → List Row
rows_from_count laid = laid.events_row ∷ (laid.events ++ [])

-- whether these lines of a text are still to be read after what was read of it, followed by the
-- rest of the input
pub record Ahead (text rest : List ℕ) (rows : List Row) (so_far : List ℕ) (left : Option (List ℕ))
    : Type 0 where
  pub still : List ℕ
  pub whole : text ≡ so_far ++ still
  pub left_is : left ≡ Some (still ++ rest)
  pub rows_are : rows_of still ≡ rows
  pub ended : unended_of still ≡ []
