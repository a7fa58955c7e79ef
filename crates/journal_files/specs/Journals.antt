-- The journal of a meter in a file.
--     IsJournalOf    the text of a recorder's journal
--     IsBegun        a file with that text, on the disk
--     Continues      a recorder that continues where a journal's lines end
--     changing       the events that have a line
use Rattle.std.specs.Prelude.{◌≡◌, ℕ, not, List, filter, Ok}
use Rattle.durable_lines.specs.CrashModel.{HasOneOutcome}
use Rattle.relay_core.specs.Stands.{StandsFor}
use Rattle.relay_events.specs.Kinds.{is_read}
use Rattle.relay_events.specs.declared.event.Event.{Event}
use Rattle.relay_recorder.specs.Recording.{Recording}
use Rattle.relay_recorder.specs.declared.trace.Trace.{Trace}
use Rattle.trace_player.specs.Resuming.{ContinuesRun, IsTraceOf, world_of}
use Rattle.trace_player.specs.Traces.{trace_of}
use Rattle.trace_player.specs.Journals.{IsJournal, journal_text}

-- whether the text is the recorder's journal: it has the recorder's opening and its events
pub record IsJournalOf (recorder : Recording) (text : List ℕ) : Type 0 where
  pub trace : Trace
  pub traced : IsTraceOf recorder trace
  pub written : text ≡ journal_text trace

-- whether the file has the text of the recorder's journal, and every crash leaves it
pub record IsBegun (recorder : Recording) (seen : List ℕ) (may_leave : List ℕ → Type 0) : Type 0
  where
    pub journal : IsJournalOf recorder seen
    pub durable : HasOneOutcome seen may_leave

-- Whether the recorder continues where the run of a text ends. Its core stands for the meter at the
-- end of that run, and whatever comes next it answers as the meter that wrote the text.
pub record Continues (device text : List ℕ) (recorder : Recording) : Type 0 where
  pub trace : Trace
  pub journal : IsJournal text
  pub told : trace_of text ≡ Ok trace
  pub device_is : trace.opening.device ≡ device
  pub stands : StandsFor recorder.core (world_of trace)
  pub goes_on : ContinuesRun trace (world_of trace)

-- the events without those that only read
abbrev pub changing : List Event → List Event
changing events = filter (λ (event : Event). not (is_read event)) events
