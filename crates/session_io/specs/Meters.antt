-- The events that a meter is asked, and its replies.
--     RepliesTo      all events had replies
--     RefusesLast    the last event was refused
--     CoreSteps      how the core takes an event
use Rattle.std.specs.Prelude.{◌≡◌, false, List, [], ◌∷◌, ◌++◌, Result, Ok, Err}
use Rattle.relay_events.specs.declared.event.Event.{Event}
use Rattle.relay_events.specs.declared.reply.Reply.{Reply}
use Rattle.relay_core.specs.declared.relay.RelayCore.{RelayCore}
use Rattle.relay_core.specs.Machine.{at_event, is_sure}
use Rattle.relay_core.specs.Stands.{StandsFor}
use Rattle.relay_core.specs.World.{World}
use Rattle.turn_lock.specs.declared.call_fault.CallFault.{CallFault}
use Rattle.turn_lock.specs.declared.call_fault.CallFault.TheVariants.{Memory, Exhausted, Journal}

module _ {M : Type 0} (steps : M → Event → Result Reply CallFault → M → Type 0) where
  -- whether a meter took these events, one after the other, and returned these replies
  abbrev pub RepliesTo : M → List Event → List Reply → M → Type 0
  RepliesTo first [] [] last = last ≡ first
  RepliesTo first [] (reply ∷ replies) last = ⊥
  RepliesTo first (event ∷ events) [] last = ⊥
  RepliesTo first (event ∷ events) (reply ∷ replies) last = (next : M)
      × steps first event (Ok reply) next × RepliesTo next events replies last

  -- whether a meter took all but the last of these events, returned these replies, and refused the
  -- last event
  pub record RefusesLast (first : M) (events : List Event) (replies : List Reply)
      (fault : CallFault) (last : M) : Type 0 where
    pub taken : List Event
    pub event : Event
    pub all : events ≡ taken ++ event ∷ []
    pub before : M
    pub replied : RepliesTo first taken replies before
    pub refused : steps before event (Err fault) last

-- whether a core took an event: it represents the world after it, and the reply is that of the
-- world
pub record TakesEvent (old : RelayCore) (event : Event) (reply : Reply) (new : RelayCore) : Type 0
  where
    pub world : (w : World) → StandsFor old w → StandsFor new (at_event event w).world
    pub reply_of : (w : World) → StandsFor old w → reply ≡ (at_event event w).reply

-- whether a core took an event and replied with that of the represented world; or memory ran out,
-- so that the core is unchanged and the event is one that may allocate
abbrev pub CoreSteps : RelayCore → Event → Result Reply CallFault → RelayCore → Type 0
CoreSteps old event (Ok reply) new = TakesEvent old event reply new
CoreSteps old event (Err Memory) new = (new ≡ old) × (is_sure event ≡ false)
CoreSteps old event (Err Exhausted) new = ⊥
CoreSteps old event (Err Journal) new = ⊥
