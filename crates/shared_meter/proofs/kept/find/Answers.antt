use Rattle.std.proofs.Common.{subst}
use Rattle.shared_meter.specs.Pending.{PendsIn}
use Rattle.shared_meter.proofs.kept.find.Goals as goal

pub returns-in-Some-clause-preserved : goal.returns-in-Some-clause-preserved
returns-in-Some-clause-preserved c = λ lines switches pends.
    c.answer.ensures.preserved lines switches
    (subst (λ pending. PendsIn pending lines switches) c.in-Some.is pends)

pub returns-in-Some-clause-answers : goal.returns-in-Some-clause-answers
returns-in-Some-clause-answers c = λ lines switches pends.
    c.answer.ensures.answers lines switches
    (subst (λ pending. PendsIn pending lines switches) c.in-Some.is pends)
