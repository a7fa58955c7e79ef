-- A core that applies events one after the other.
use Rattle.std.proofs.Common.{◌≡◌, ℕ, ◌+◌, ◌<◌, List, [], ◌∷◌, ◌++◌, length, take, get_or, ap, sym, ◌∙◌, subst}
use Rattle.std.proofs.lemmas.List.{take_more}
use Rattle.relay_core.proofs.RunLemmas.{world_after-append}
use Rattle.relay_core.specs.Machine.{at_event}
use Rattle.relay_core.specs.Runs.{world_after}
use Rattle.relay_core.specs.Stands.{StandsFor}
use Rattle.relay_core.specs.World.{World}
use Rattle.relay_events.specs.declared.event.Event.{Event}
use Rattle.relay_core.specs.declared.relay.RelayCore.{RelayCore}

-- the core applied these events
abbrev pub Took : RelayCore → RelayCore → List Event → Type 0
Took old new events = (w : World) → StandsFor old w → StandsFor new (world_after events w)

-- the core applied one more event
pub took_more : (old now next : RelayCore) (events : List Event) (i : ℕ) (event : Event)
    → i < length events → event ≡ get_or events i event
    → Took old now (take i events) → ((w : World) → StandsFor now w
    → StandsFor next (at_event event w).world) → Took old next (take (i + 1) events)
took_more old now next events i event below is took goes = λ w stands.
    let all : take (i + 1) events ≡ take i events ++ event ∷ [] =
    take_more events i event below ∙ ap (λ e. take i events ++ e ∷ []) (sym is) in
    subst (λ (es : List Event). StandsFor next (world_after es w)) (sym all)
    (subst (λ (v : World). StandsFor next v) (sym (world_after-append (take i events) (event
    ∷ []) w)) (goes (world_after (take i events) w) (took w stands)))
