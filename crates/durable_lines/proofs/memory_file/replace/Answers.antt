use Rattle.std.proofs.Common.{◌++◌, ◌∷◌, [], ◌∙◌, ap}
use Rattle.durable_lines.specs.FileState.{State, IsLeft}
use Rattle.durable_lines.proofs.PastLemmas.{elapses_to}
use Rattle.durable_lines.proofs.memory_file.replace.Goals as goal

pub returns-clause-time : goal.returns-clause-time
returns-clause-time c = elapses_to IsLeft _ _ _ _ (c.in_ok-push.ensures.items
    ∙ ap (λ (s : State). c.args.past.now.items ++ s ∷ []) c.in_ok-copy.ensures)
