-- The faults of a journal.
--     of_trace    the fault of a text that is not a trace
--     of_file     the fault of a file
--     IsRefusal   the text was refused, before anything was changed
--     IsResumeFault   a text is not resumed for this fault
--     IsBeginFault    the journal of a recorder is not begun for this fault
--     IsUnwritable    a renewed journal is not written for this fault
--     IsRenewFault    a text is not renewed for this fault
use Rattle.std.specs.Prelude.{◌≡◌, ◌⊎◌, ℕ, List, Ok, Err, ⊤, length}
use Rattle.durable_lines.specs.Lines.{lines_in, text_of, HasLinesAfterDamage, IsText}
use Rattle.durable_lines.specs.declared.fault.FileFault.{FileFault}
use Rattle.durable_lines.specs.declared.fault.FileFault.TheVariants as file
use Rattle.journal_files.specs.declared.fault.StartFault.{StartFault}
use Rattle.journal_files.specs.declared.fault.StartFault.TheVariants as journal
use Rattle.journal_files.specs.Journals.{IsJournalOf}
use Rattle.relay_recorder.specs.Recording.{Recording}
use Rattle.relay_recorder.specs.declared.trace.Trace.{Trace}
use Rattle.trace_player.specs.Journals.{IsJournal}
use Rattle.trace_player.specs.Traces.{trace_of}
use Rattle.trace_words.specs.declared.fault.TraceFault.{TraceFault}
use Rattle.trace_words.specs.declared.fault.TraceFault.TheVariants as trace

-- the same line or length, or out of memory
abbrev pub of_trace : TraceFault → StartFault
of_trace (trace.Line number) = journal.Line number
of_trace trace.TooLong = journal.TooLong
of_trace trace.Memory = journal.Memory

-- a failed call, the length, or out of memory
abbrev pub of_file : FileFault → StartFault
of_file file.Failed = journal.File
of_file file.TooLong = journal.TooLong
of_file file.Memory = journal.Memory

-- whether the text was refused, before anything was changed
abbrev pub IsRefusal : StartFault → Type 0
IsRefusal (journal.Line number) = ⊤
IsRefusal journal.Counted = ⊤
IsRefusal journal.OtherMeter = ⊤
IsRefusal (journal.Damaged at) = ⊤
IsRefusal _ = ⊥

-- Whether a text is refused for this fault as the journal of the meter with this name: it is not a
-- trace, or one but not a journal, or a journal but of another meter, or whole lines follow a
-- damaged one. The other faults are those of its file, and out of memory.
abbrev pub IsResumeFault : (device text : List ℕ) → StartFault → Type 0
IsResumeFault device text (journal.Line number) = trace_of text ≡ Err (trace.Line number)
IsResumeFault device text journal.Counted =
    (told : Trace) × (trace_of text ≡ Ok told) × (IsJournal text → ⊥)
IsResumeFault device text journal.OtherMeter = (told : Trace) × (trace_of text ≡ Ok told)
    × IsJournal text × (told.opening.device ≡ device → ⊥)
IsResumeFault device text (journal.Damaged at) = (at ≡ length (text_of (lines_in text)))
    × HasLinesAfterDamage text
IsResumeFault device text _ = ⊤

-- Whether the journal of a recorder is not begun for this fault: line 1 stands for a text that is
-- not whole lines without a byte 0. The other faults are those of the place, and out of memory.
abbrev pub IsBeginFault : Recording → StartFault → Type 0
IsBeginFault recorder (journal.Line number) =
    (number ≡ 1) × (text : List ℕ) × IsJournalOf recorder text × (IsText text → ⊥)
IsBeginFault recorder journal.Counted = ⊥
IsBeginFault recorder journal.OtherMeter = ⊥
IsBeginFault recorder (journal.Damaged at) = ⊥
IsBeginFault recorder _ = ⊤

-- whether the text of a renewed journal is not written for this fault; line 1 stands for a text
-- that would not be read back
abbrev pub IsUnwritable : StartFault → Type 0
IsUnwritable (journal.Line number) = number ≡ 1
IsUnwritable journal.Counted = ⊥
IsUnwritable (journal.Damaged at) = ⊥
IsUnwritable journal.File = ⊥
IsUnwritable _ = ⊤

-- whether a text is not renewed for this fault: it is not a trace, or it is one and the new text is
-- not written
abbrev pub IsRenewFault : (text : List ℕ) → StartFault → Type 0
IsRenewFault text (journal.Line number) = (trace_of text ≡ Err (trace.Line number))
    ⊎ ((told : Trace) × (trace_of text ≡ Ok told) × (number ≡ 1))
IsRenewFault text journal.Counted = ⊥
IsRenewFault text (journal.Damaged at) = ⊥
IsRenewFault text journal.OtherMeter = (told : Trace) × (trace_of text ≡ Ok told)
IsRenewFault text _ = ⊤
