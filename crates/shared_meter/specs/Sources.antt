-- What a source declares it has yet to return: a list, or `None` if it declares nothing. `before`
-- is the value before a call, `after` the value after it.
--     Gives, Presses            the next item of a source of blocks, moments or presses
--     Offers                    the next event of a source of events
--     AllMoments, AllPresses    the events of moments and of presses
use Rattle.std.specs.Prelude.{◌≡◌, ◌⊎◌, ⊤, ℕ, zero, suc, Bool, true, false, List, [], ◌∷◌, map, replicate, Option, Some, None, IfSome}
use Rattle.shared_meter.specs.Calls.{IsSure}
use Rattle.relay_events.specs.declared.event.Event.{Event}
use Rattle.relay_events.specs.declared.event.Event.TheVariants as event

-- Whether the call returned the first item of the declared list, and `None` exactly if the list is
-- empty. Nothing is known about a source that declares nothing.
abbrev pub Gives : {X : Type 0} → (before : Option (List X)) → (given : Option X)
    → (after : Option (List X)) → Type 0
Gives None given after = ⊤
Gives (Some []) given after = (given ≡ None) × (after ≡ Some [])
Gives (Some (x ∷ xs)) given after = (given ≡ Some x) × (after ≡ Some xs)

-- whether a call returned one of the declared number of presses, and false exactly if none is left;
-- nothing is known about a source that declares nothing
abbrev pub Presses : (before : Option ℕ) → (given : Bool) → (after : Option ℕ) → Type 0
Presses None given after = ⊤
Presses (Some zero) given after = (given ≡ false) × (after ≡ Some 0)
Presses (Some (suc count)) given after = (given ≡ true) × (after ≡ Some count)

-- whether the lists of events that can follow a state of a source, up to its end, include those
-- that can follow another
abbrev pub Includes : (CanFollow CanFollowNext : List Event → Type 0) → Type 0
Includes CanFollow CanFollowNext = (events : List Event) → CanFollowNext events → CanFollow events

-- Whether the source may offer this next event, which never allocates or can be left out. `None` is
-- the end of the source.
abbrev pub Offers : (CanFollow : List Event → Type 0) → (offered : Option Event)
    → (CanFollowNext : List Event → Type 0) → Type 0
Offers CanFollow None CanFollowNext = CanFollow []
Offers CanFollow (Some event) CanFollowNext =
    ((events : List Event) → CanFollowNext events → CanFollow (event ∷ events))
    × (IsSure event ⊎ Includes CanFollow CanFollowNext)

-- whether the events are all the moments that the source declared, in order
abbrev pub AllMoments : Option (List ℕ) → List Event → Type 0
AllMoments told events = IfSome told (λ moments. events ≡ map event.Moment moments)

-- whether the events are the number of presses that the source declared
abbrev pub AllPresses : Option ℕ → List Event → Type 0
AllPresses told events = IfSome told (λ count. events ≡ replicate count event.Button)
