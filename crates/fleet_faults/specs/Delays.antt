-- When the events of connections are reported: a list of delays, in the order of the keys.
--     delays_after_set       the delays after a connection was opened
--     delays_after_event     the delays after an event
--     reported_keys          what is reported of an event at once
--     due_keys               the connections whose events must be reported
--     delay_after_search     the delay of a connection after a search for events to report
--     TakesFirst             some of the connections whose events must be reported
use Rattle.std.specs.Prelude.{◌≡◌, ℕ, ◌+◌, ◌-◌, ◌++◌, Bool, true, false, List, [], ◌∷◌, Option, Some}
use Rattle.std.specs.Prelude.{None, length, replicate, slice_get, slice_set, if◌then◌else◌, nat_le, nat_lt}
use Rattle.fleet_faults.specs.declared.delays.Delay.{Delay}
use Rattle.fleet_faults.specs.declared.delays.Delay.TheVariants.{Prompt, Late, Held}

-- the delay of a connection without an event that is held back
abbrev pub first_delay : Bool → Delay
first_delay true = Late
first_delay false = Prompt

-- the delays with one for this key; a connection that had none is prompt
abbrev pub delays_up_to : ℕ → List Delay → List Delay
delays_up_to key delays =
    if nat_lt key (length delays)
    then delays
    else delays ++ replicate (key + 1 - length delays) Prompt

-- the delays after the connection with this key was opened
abbrev pub delays_after_set : ℕ → Bool → List Delay → List Delay
delays_after_set key is_late delays =
    slice_set (delays_up_to key delays) key (first_delay is_late)

-- whether events of a connection with this delay are held back
abbrev pub is_late : Option Delay → Bool
is_late None = false
is_late (Some Prompt) = false
is_late (Some Late) = true
is_late (Some (Held moment)) = true

-- the delays after an event of the connection with this key, which is held back until this moment
-- if the connection is late
abbrev pub delays_after_event : ℕ → ℕ → List Delay → List Delay
delays_after_event key moment delays =
    if is_late (slice_get delays key) then slice_set delays key (Held moment) else delays

-- the key that is reported at once: that of a connection that is not late
abbrev pub reported_keys : ℕ → List Delay → List ℕ
reported_keys key delays = if is_late (slice_get delays key) then [] else key ∷ []

-- whether an event that is held back must be reported now
abbrev pub is_due : ℕ → Delay → Bool
is_due now Prompt = false
is_due now Late = false
is_due now (Held moment) = nat_le moment now

-- the key of a connection, if its event must be reported
abbrev pub due_at : ℕ → ℕ → Delay → List ℕ
due_at now key delay = if is_due now delay then key ∷ [] else []

-- the keys of the connections whose events must be reported, where the first delay is that of this
-- key
abbrev pub due_from : ℕ → ℕ → List Delay → List ℕ
due_from now key [] = []
due_from now key (delay ∷ delays) = due_at now key delay ++ due_from now (key + 1) delays

-- the keys of the connections whose events must be reported, in ascending order
abbrev pub due_keys : ℕ → List Delay → List ℕ
due_keys now delays = due_from now 0 delays

-- the delay of a connection after a search: an event that must be reported is not held back any
-- more
abbrev pub delay_after_search : ℕ → Delay → Delay
delay_after_search now delay = if is_due now delay then Late else delay

-- whether the keys appended to `ready` are the first of those of the connections whose events are
-- due
pub record TakesFirst (now : ℕ) (delays : List Delay) (ready ready' : List ℕ) : Type 0 where
  pub taken : List ℕ
  pub left : List ℕ
  pub split : taken ++ left ≡ due_keys now delays
  pub grown : ready' ≡ ready ++ taken
