-- The effect of a call on the events that a port has passed on.
use Rattle.std.proofs.Common.{◌≡◌, ℕ, List, [], ◌∷◌, ◌++◌, ap, ◌∙◌, map}
use Rattle.std.proofs.lemmas.List.{map-append}
use Rattle.relay_events.specs.declared.event.Event.{Event}
use Rattle.relay_events.specs.declared.reply.Reply.{Reply}
use Rattle.turn_lock.specs.declared.turned.Entry.{Entry}
use Rattle.turn_lock.specs.History.{calls_by, entry}
use Rattle.shared_meter.specs.Handed.{MeterPort, own_events}

-- a call that returned a reply adds its event
pub handed_more : (p q : MeterPort) (event : Event) (reply : Reply) → q.known.number
    ≡ p.known.number
    → calls_by p.known.number q.known.seen ≡ calls_by p.known.number p.known.seen
    ++ entry p.known.number event reply ∷ []
    → own_events q ≡ own_events p ++ event ∷ []
handed_more p q event reply number own =
    ap (λ (n : List ℕ). map (λ (call : Entry Event Reply). call.event)
    (calls_by n q.known.seen)) number
    ∙ ap (map (λ (call : Entry Event Reply). call.event)) own
    ∙ map-append (λ (call : Entry Event Reply). call.event) (calls_by p.known.number p.known.seen)
    (entry p.known.number event reply ∷ [])

-- a call that was refused adds none
pub handed_same : (p q : MeterPort) → q.known.number ≡ p.known.number
    → calls_by p.known.number q.known.seen ≡ calls_by p.known.number p.known.seen → own_events q
    ≡ own_events p
handed_same p q number own =
    ap (λ (n : List ℕ). map (λ (call : Entry Event Reply). call.event)
    (calls_by n q.known.seen)) number
    ∙ ap (map (λ (call : Entry Event Reply). call.event)) own
