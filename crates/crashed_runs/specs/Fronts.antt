-- The meter after a front of a run.
--     run_events        the events of the calls of a run
--     ContinuesFront    a meter that answers as the one after the first calls of a run
use Rattle.std.specs.Prelude.{◌≡◌, ℕ, ◌≤◌, List, ◌++◌, length}
use Rattle.journal_files.specs.Renewals.{AnswerAlike}
use Rattle.relay_core.specs.Runs.{world_after}
use Rattle.relay_core.specs.World.{World}
use Rattle.relay_events.specs.declared.event.Event.{Event}
use Rattle.relay_recorder.specs.Histories.{events_of}
use Rattle.shared_meter.specs.Calls.{Calls, events_and_replies}
use Rattle.shared_meter.specs.Pending.{lines_of_calls}

-- the events of calls, in order
abbrev pub run_events : Calls → List Event
run_events calls = events_of (events_and_replies calls)

-- Whether the meter in the second world answers as the one after the first calls of a run. The run
-- made all these calls from the first world, and the first calls have at least `from` lines.
pub record ContinuesFront (from : ℕ) (calls : Calls) (origin resumed : World) : Type 0 where
  pub front : Calls
  pub rest : Calls
  pub all : calls ≡ front ++ rest
  pub enough : from ≤ length (lines_of_calls front)
  pub answers : AnswerAlike resumed (world_after (run_events front) origin)
