use Rattle.embedded_meter.proofs.ShortWay.{stopped_short}
use Rattle.embedded_meter.proofs.connection.ClientSession.serve.Goals as goal

pub returns-in_err-given-in-Nothing-clause-gives : goal.returns-in_err-given-in-Nothing-clause-gives
returns-in_err-given-in-Nothing-clause-gives c =
    stopped_short _ _ _ _ _ _ c.from_residual.result _ c.from_residual.ensures.1
    c.in_err-given-in-Nothing.ensures.gives

pub returns-in-None-clause-gives : goal.returns-in-None-clause-gives
returns-in-None-clause-gives c =
    let none = rw c.in-None.is at (c.in_ok-given-in-Nothing.ensures.gives) in
    rw (none.0, none.1, none.2) at (c.settle_and_give.ensures.gives)
