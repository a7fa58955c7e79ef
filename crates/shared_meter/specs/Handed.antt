-- The events that a worker passes to the meter through its port.
use Rattle.std.specs.Prelude.{◌≡◌, ◌⊎◌, ◌≤◌, Bool, true, false, not, List, [], ◌∷◌, ◌++◌, map, filter}
use Rattle.shared_meter.specs.Calls.{IsSure}
use Rattle.relay_events.specs.declared.event.Event.{Event}
use Rattle.relay_events.specs.declared.event.Event.TheVariants as event
use Rattle.relay_events.specs.declared.reply.Reply.{Reply}
use Rattle.relay_core.specs.declared.opening.Opening.{Opening}
use Rattle.turn_lock.specs.declared.turned.Entry.{Entry}
use Rattle.turn_lock.specs.History.{calls_by}
use Rattle.turn_lock.specs.Shown.{ShownPort}
use Rattle.turn_lock.specs.declared.call_fault.CallFault.{CallFault}
use Rattle.turn_lock.specs.declared.call_fault.CallFault.TheVariants.{Memory, Exhausted, Journal}

-- the port of a shared meter as contracts see it: its events are those of the meter, its replies
-- the meter's, and its origin is an opening
abbrev pub MeterPort : Type 0
MeterPort = ShownPort Event Reply Opening

-- the events of the port's own calls, in order
abbrev pub own_events : MeterPort → List Event
own_events port = map (λ (call : Entry Event Reply). call.event)
    (calls_by port.known.number port.known.seen)

-- whether an event is a read of several attributes, the only read that a worker makes
abbrev pub is_read : Event → Bool
is_read (event.GetList level items) = true
is_read _ = false

-- the events without the reads
abbrev pub without_reads : List Event → List Event
without_reads events = filter (λ (e : Event). not (is_read e)) events

-- whether the event of a source was passed on, or was left out because it allocates
abbrev pub Passes : Event → (before after : List Event) → Type 0
Passes event before after = (after ≡ before ++ event ∷ []) ⊎ (¬ (IsSure event) × (after ≡ before))

-- whether the events that were passed on through a port since can be all those of a source
pub record PassesAll (CanFollow : List Event → Type 0) (p q : MeterPort) : Type 0 where
  pub events : List Event
  pub handed : own_events q ≡ own_events p ++ events
  pub all : CanFollow events

-- whether a worker may stop with this fault before its source ends: never because out of memory,
-- only because its port has read that all turns of the lock's bound were drawn
abbrev pub StopsFor : MeterPort → CallFault → Type 0
StopsFor q Memory = ⊥
StopsFor q Exhausted = q.bound ≤ q.known.drawn
StopsFor q Journal = ⊥
