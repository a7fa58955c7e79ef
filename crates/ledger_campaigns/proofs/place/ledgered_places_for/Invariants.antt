use Rattle.std.proofs.Common.{◌≡◌, length}
use Rattle.std.specs.List.{All}
use Rattle.head_end.specs.Attempts.{unused}
use Rattle.ledger_campaigns.proofs.place.ledgered_places_for.Given as goal

-- the places so far have unused attempts of the connector and ports of the lock
abbrev pub invariant-places : goal.invariant-places
invariant-places g l =
    (length l.places.items ≡ l.counter)
    × All (λ place. place.attempt.stage ≡ unused) l.places.items
    × All (λ place. place.attempt.source.value ≡ l.connector) l.places.items
    × All (λ place. place.port.lock ≡ l.fn.port.lock) l.places.items
    × (l.port.lock ≡ l.fn.port.lock) × (l.port.known.origin ≡ l.fn.port.known.origin)
