use Rattle.turn_lock.specs.Shown.{IsSame}
use Rattle.shared_meter.specs.Handed.{own_events}
use Rattle.shared_meter.proofs.PassingLemmas.{Passing}
use Rattle.shared_meter.proofs.running.run_source.Given as goal

abbrev pub invariant-passing : goal.invariant-passing
invariant-passing g l =
    (goal.iterator-passing g).can_next l.iterator' × (goal.iterator-passing g).is_finite l.iterator'
    × IsSame l.initial.port l.port
    × Passing (g.S.EventSource.can_follow l.initial.source) (own_events l.initial.port)
    (g.S.EventSource.can_follow l.source) (own_events l.port)
