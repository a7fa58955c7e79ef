use Rattle.std.proofs.Common.{ap, sym, ◌∙◌}
use Rattle.meter_run.proofs.JournaledLemmas.{started_first}
use Rattle.meter_run.proofs.journaled.start.Goals as goal

pub returns-clause-starts : goal.returns-clause-starts
returns-clause-starts g c = λ o known.
    started_first o _ _ _ (ap (λ p. p.known) c.new.ensures.port ∙ known) c.in-Some.ensures.port

pub returns-clause-lent : goal.returns-clause-lent
returns-clause-lent g c = c.in-Some.ensures.port.lock ∙ sym c.in-Some.ensures.port.goes.lock
