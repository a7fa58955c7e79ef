use Rattle.shared_meter.proofs.kept.KeptInspected.inspect.Goals as goal

pub returns-clause-finds : goal.returns-clause-finds
returns-clause-finds c = rw (← c.self.view_is) (λ calls stands.
    c.find.ensures.answers _ _ stands.pending)
