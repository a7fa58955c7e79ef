-- The lines of a journal: each event that may change the meter has one.
--     event_lines, lines_of_calls   the lines of an event and of a history
--     IsTextOfLine                  the text of one line
--     PendingView, IsPending        the lines that were not taken yet
--     Pends                         the lines are pending, unless one was lost
--     Answers                       what a question finds
use Rattle.std.specs.Prelude.{◌≡◌, ℕ, ◌≤◌, Bool, false, List, [], ◌∷◌, ◌++◌, length}
use Rattle.std.specs.Prelude.{drop, Option, Some, None, if◌then◌else◌, ⊤}
use Rattle.std.specs.List.{AllByRecursion}
use Rattle.turn_lock.specs.declared.turned.Entry.{Entry}
use Rattle.relay_events.specs.Kinds.{is_read}
use Rattle.relay_events.specs.declared.event.Event.{Event}
use Rattle.relay_events.specs.declared.reply.Reply.{Reply}
use Rattle.text_lines.specs.Lines.{text_of, IsPlain}
use Rattle.text_lines.specs.Words.{line_of}
use Rattle.trace_lines.specs.Writing.{event_row}
use Rattle.shared_meter.specs.declared.pending.Finding.{Finding}
use Rattle.shared_meter.specs.declared.pending.Finding.TheVariants.{Count, Taken, Incomplete}
use Rattle.shared_meter.specs.declared.pending.Question.{Question}
use Rattle.shared_meter.specs.declared.pending.Question.TheVariants as question

-- the line of an event, as a trace has it; a read has none
abbrev pub event_lines : Event → List (List ℕ)
event_lines event = if is_read event then [] else line_of (event_row event) ∷ []

-- the lines of calls, in order
abbrev pub lines_of_calls : List (Entry Event Reply) → List (List ℕ)
lines_of_calls [] = []
lines_of_calls (call ∷ calls) = event_lines call.event ++ lines_of_calls calls

-- whether this is the text of a line that has no byte 0 and no byte 0A
abbrev pub IsTextOfLine : List ℕ → List ℕ → Type 0
IsTextOfLine line text = (text ≡ text_of (line ∷ [])) × IsPlain line

-- The lines that were not taken yet: their text, the number of lines that were taken before, the
-- number of all lines, how often the supply output was changed by their events, and whether a line
-- was lost.
pub record PendingView : Type 0 where
  pub text : List ℕ
  pub taken : ℕ
  pub count : ℕ
  pub switches : ℕ
  pub is_lost : Bool

-- whether the text is that of all lines after those that were taken, no line has a byte 0 or 0A,
-- and this is the number of changes of the output
pub record IsPending (pending : PendingView) (lines : List (List ℕ)) (switches : ℕ)
    : Type 0 where
  pub plain : AllByRecursion IsPlain lines
  pub count : pending.count ≡ length lines
  pub taken : pending.taken ≤ length lines
  pub text : pending.text ≡ text_of (drop pending.taken lines)
  pub switches_are : pending.switches ≡ switches

-- whether the text is that of the lines that were not taken, and this is the number of changes of
-- the output, unless a line was lost
abbrev pub Pends : PendingView → (lines : List (List ℕ)) → (switches : ℕ) → Type 0
Pends pending lines switches = pending.is_lost ≡ false → IsPending pending lines switches

-- whether the pending lines of a meter, if it has a journal, are those that were not taken, and
-- this is the number of changes of the output
abbrev pub PendsIn : Option PendingView → (lines : List (List ℕ)) → (switches : ℕ) → Type 0
PendsIn None lines switches = ⊤
PendsIn (Some pending) lines switches = Pends pending lines switches

-- whether the text is that of all lines after the first `taken`, `count` is the number of all, and
-- no line has a byte 0 or 0A
pub record IsRest (lines : List (List ℕ)) (taken : ℕ) (text : List ℕ) (count : ℕ) : Type 0 where
  pub plain : AllByRecursion IsPlain lines
  pub within : taken ≤ length lines
  pub text_is : text ≡ text_of (drop taken lines)
  pub count_is : count ≡ length lines

-- Whether this is what a question finds, by the lines of the history and the number of changes of
-- the supply output: the number of lines, or the text after the lines that were taken, with both
-- numbers. Nothing is claimed of an incomplete finding.
abbrev pub Answers : (lines : List (List ℕ)) → (switches : ℕ) → Question → Finding → Type 0
Answers lines switches question (Incomplete) = ⊤
Answers lines switches question.Count (Count count) = count ≡ length lines
Answers lines switches (question.Take taken room) (Taken text count switched) =
    IsRest lines taken text.items count × (switched ≡ switches)
Answers lines switches _ _ = ⊥
