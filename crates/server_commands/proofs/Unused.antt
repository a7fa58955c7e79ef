-- A recorder without events.
use Rattle.std.proofs.Common.{◌≡◌, List, [], length, ap}
use Rattle.std.proofs.lemmas.List.{nil_from_length}
use Rattle.relay_events.specs.declared.event.Event.{Event}

-- a list of length 0 is empty
pub unused : (events : List Event) → length events ≡ 0 → events ≡ []
unused events none = nil_from_length events none

-- an empty list has length 0
pub uncounted : (events : List Event) → events ≡ [] → length events ≡ 0
uncounted events none = ap (λ (es : List Event). length es) none
