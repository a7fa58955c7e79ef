use Rattle.std.proofs.Common.{◌≡◌}
use Rattle.turn_lock.specs.History.{StartsWith}
use Rattle.ledger_campaigns.proofs.CampaignLemmas.{AllBelow}
use Rattle.ledger_campaigns.proofs.sharing.meet_all.Given as goal

-- the places are as they were, and the port has seen what the ports of the places so far have seen
abbrev pub invariant-loop-i : goal.invariant-loop-i
invariant-loop-i g l = (l.places ≡ l.fn.places) × (l.port.lock ≡ l.fn.port.lock)
    × (l.port.known.origin ≡ l.fn.port.known.origin)
    × AllBelow (λ place. StartsWith l.port.known.seen place.port.known.seen) l.i l.fn.places
