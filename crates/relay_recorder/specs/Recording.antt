-- The view that callers have of a recorder.
use Rattle.std.specs.Prelude.{◌≡◌, ℕ, ◌-◌, ◌≤◌, List, [], length, take}
use Rattle.circular_buffer.specs.Buffer.{Buffer}
use Rattle.relay_events.specs.declared.event.Event.{Event}
use Rattle.relay_core.specs.declared.relay.RelayCore.{RelayCore}

-- The current core, the core before the kept events, the kept events (oldest first), and the
-- maximum number of kept events.
pub record Recording : Type 0 where
  pub core : RelayCore
  pub opening : RelayCore
  pub events : List Event
  pub capacity : ℕ

-- the view of a recorder that consists of these parts
abbrev pub recording : RelayCore → RelayCore → Buffer Event → Recording
recording core opening kept =
    record { core = core; opening = opening; events = kept.items; capacity = kept.capacity }

-- the greatest capacity of a recorder, in events
abbrev pub max_capacity : ℕ
max_capacity = 1024

-- whether a recorder may have this capacity
abbrev pub IsCapacity : ℕ → Type 0
IsCapacity capacity = (1 ≤ capacity) × (capacity ≤ max_capacity)

-- whether a recorder is as each one is: its capacity is 1 to 1,024 events, it keeps no more, and
-- while it keeps none the two cores are equal
pub record IsRecording (r : Recording) : Type 0 where
  pub some : 1 ≤ r.capacity
  pub few : r.capacity ≤ max_capacity
  pub within : length r.events ≤ r.capacity
  pub unused : r.events ≡ [] → r.opening ≡ r.core

-- all but the last n items
abbrev pub all_but_last : {X : Type 0} → ℕ → List X → List X
all_but_last n xs = take (length xs - n) xs
