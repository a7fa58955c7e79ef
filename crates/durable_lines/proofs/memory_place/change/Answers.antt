use Rattle.std.proofs.Common.{◌++◌, ◌∷◌, [], ◌∙◌, ap}
use Rattle.durable_lines.specs.MemoryPlace.{MayBeLeft}
use Rattle.durable_lines.specs.declared.memory_place.PlaceState.{PlaceState}
use Rattle.durable_lines.proofs.PastLemmas.{elapses_to}
use Rattle.durable_lines.proofs.memory_place.change.Goals as goal

pub returns-clause-time : goal.returns-clause-time
returns-clause-time c = elapses_to MayBeLeft _ _ _ _ (c.in_ok-push.ensures.items
    ∙ ap (λ (s : PlaceState). c.args.past.now.items ++ s ∷ []) c.in_ok-copy.ensures)
