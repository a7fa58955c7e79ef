-- The connections that a listener accepts, and the change of their number.
use Rattle.std.specs.Prelude.{◌≡◌, ⊤, ℕ, ◌+◌, ◌<◌, Option, Some, IfSome}
use Rattle.port_threads.specs.declared.connections.Arrival.{Arrival}
use Rattle.port_threads.specs.declared.connections.Arrival.TheVariants as incoming

-- whether `P` holds of the connection, if there is one to serve
abbrev pub IfReady : {C : Type 0} → (C → Type 0) → Arrival C → Type 0
IfReady P (incoming.Ready connection) = P connection
IfReady P incoming.OutOfMemory = ⊤
IfReady P incoming.SetupFailed = ⊤

-- the number of connections that the listener closed because their stream could not be set up
abbrev pub setup_failures_of : {C : Type 0} → Arrival C → ℕ
setup_failures_of (incoming.Ready connection) = 0
setup_failures_of incoming.OutOfMemory = 0
setup_failures_of incoming.SetupFailed = 1

-- whether a number has risen by `count`; nothing is claimed if the listener does not count its
-- connections
abbrev pub RisesBy : (before : Option ℕ) (count : ℕ) (after : Option ℕ) → Type 0
RisesBy before count after = IfSome before (λ number. after ≡ Some (number + count))

-- whether `count` connections were accepted, unless the count reached 2^64 - 1
abbrev pub IsCounted : (before : Option ℕ) (count : ℕ) (after : Option ℕ) → Type 0
IsCounted before count after = count < 18446744073709551615 → RisesBy before count after
