-- The histories of calls that a recorder in a lock may have.
use Rattle.std.specs.Prelude.{◌≡◌, ℕ, List, map, IsTrue}
use Rattle.turn_lock.specs.declared.turned.Entry.{Entry}
use Rattle.relay_events.specs.declared.event.Event.{Event}
use Rattle.relay_events.specs.declared.reply.Reply.{Reply}
use Rattle.relay_core.specs.declared.opening.Opening.{Opening}
use Rattle.relay_core.specs.Machine.{is_sure}
use Rattle.relay_core.specs.Opening.{world_of_opening}
use Rattle.relay_recorder.specs.Histories.{Exchange, StandsForHistory, events_of, replies_of, replies_from}
use Rattle.shared_meter.specs.KeptRecorder.{KeptRecorder}
use Rattle.shared_meter.specs.Pending.{Answers, PendsIn, lines_of_calls}
use Rattle.shared_meter.specs.Switching.{switches_in}
use Rattle.shared_meter.specs.declared.pending.Finding.{Finding}
use Rattle.shared_meter.specs.declared.pending.Question.{Question}

-- the calls of all ports, oldest first
abbrev pub Calls : Type 0
Calls = List (Entry Event Reply)

-- the events of the calls with their replies, without the port that made each
abbrev pub events_and_replies : Calls → List Exchange
events_and_replies calls = map (λ (call : Entry Event Reply). (call.event, call.reply)) calls

-- whether the replies are those of the run over the events, from the world of the opening
abbrev pub IsLegal : Opening → Calls → Type 0
IsLegal origin calls =
    replies_of (events_and_replies calls) ≡ replies_from (world_of_opening origin)
    (events_of (events_and_replies calls))

-- how often the supply output was changed by these calls, from the world of the opening
abbrev pub switches_of : Opening → Calls → ℕ
switches_of origin calls =
    switches_in (world_of_opening origin) (events_of (events_and_replies calls))

-- whether this is what a question finds in a history of calls
abbrev pub Finds : Opening → Calls → Question → Finding → Type 0
Finds origin calls = Answers (lines_of_calls calls) (switches_of origin calls)

-- whether the recorder results from these calls, starting from the world of its origin, and the
-- journal has their lines and the number of their changes of the supply output
pub record Stands (kept : KeptRecorder) (calls : Calls) : Type 0 where
  pub history : StandsForHistory kept.recorder (events_and_replies calls)
      (world_of_opening kept.origin)
  pub pending : PendsIn kept.pending (lines_of_calls calls) (switches_of kept.origin calls)

-- whether there are calls that the recorder results from
pub record HasCalls (kept : KeptRecorder) : Type 0 where
  pub calls : Calls
  pub stands : Stands kept calls

-- whether the event never runs out of memory, so that it always has a reply
abbrev pub IsSure : Event → Type 0
IsSure event = IsTrue (is_sure event)
