-- The queues of the meter's workers.
--     Gains       a value was appended to a queue
--     Queues      the three queues
--     Sorts       an event was appended to the queue of its kind
use Rattle.std.specs.Prelude.{◌≡◌, List, [], ◌∷◌, ◌++◌, Option, IfSome, Some, ℕ}
use Rattle.lane_sampler.specs.Samples.{Samples}
use Rattle.relay_events.specs.declared.event.Event.{Event}
use Rattle.relay_events.specs.declared.event.Event.TheVariants as event

-- whether a value was appended to a queue, if the values of the queue are known
abbrev pub Gains : {T : Type 0} → Option (List T) → T → Option (List T) → Type 0
Gains old value new = IfSome old (λ values. new ≡ Some (values ++ value ∷ []))

-- the values that were appended to the queues of the three workers, as far as they are known
pub record Queues : Type 0 where
  pub blocks : Option (List Samples)
  pub moments : Option (List ℕ)
  pub presses : Option (List (Unit {0}))

-- whether an event was appended to the queue of its kind: an own event of the meter to the queue of
-- its worker, an event that a client requests to none
abbrev pub Sorts : Event → Queues → Queues → Type 0
Sorts (event.Samples block) old new = Gains old.blocks block new.blocks
    × (new ≡ record old { blocks = new.blocks })
Sorts (event.Moment now) old new = Gains old.moments now new.moments
    × (new ≡ record old { moments = new.moments })
Sorts event.Button old new = Gains old.presses tt new.presses
    × (new ≡ record old { presses = new.presses })
Sorts _ old new = new ≡ old
