-- When connections are late: timers, the first one first.
--     first_moment    the moment of the first timer
--     IsNotDue        the first timer is not due
use Rattle.std.specs.Prelude.{◌<◌, ℕ, List, [], ◌∷◌, Option, Some, None, ⊤}
use Rattle.campaign_wires.specs.declared.timers.Timer.{Timer}

-- the moment of the first timer, if there is one
abbrev pub first_moment : List Timer → Option ℕ
first_moment [] = None
first_moment (timer ∷ timers) = Some timer.moment

-- whether there is no timer, or the first one is not due now
abbrev pub IsNotDue : ℕ → List Timer → Type 0
IsNotDue now [] = ⊤
IsNotDue now (timer ∷ timers) = now < timer.moment
