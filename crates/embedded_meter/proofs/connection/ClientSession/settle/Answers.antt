use Rattle.std.proofs.Common.{[]}
use Rattle.embedded_meter.proofs.Advancing.{advances_none, advances_on}
use Rattle.embedded_meter.proofs.Steps.{rests_short}
use Rattle.embedded_meter.proofs.connection.ClientSession.settle.Goals as goal

pub work-init : goal.work-init
work-init c = advances_none _ _

pub work-preserved : goal.work-preserved
work-preserved c =
    let worked = rw c.in_default.is at c.in_ok-rest.ensures in
    advances_on _ _ _ _ _ _ [] c.work.invariant worked.0

pub returns-in_err-rest : goal.returns-in_err-rest
returns-in_err-rest c = rests_short _ _ _ _ c.from_residual.result _ c.from_residual.ensures.1
    (advances_on _ _ _ _ _ _ [] c.work.invariant c.in_err-rest.ensures)

pub returns-in-Some : goal.returns-in-Some
returns-in-Some c =
    let worked = rw c.in-Some.is at c.in_ok-rest.ensures in
    (advances_on _ _ _ _ _ _ [] c.work.invariant worked.0, worked.1)
