use Rattle.embedded_meter.proofs.Advancing.{applied}
use Rattle.embedded_meter.proofs.connection.ClientSession.apply.Goals as goal

pub returns : goal.returns
returns c =
    applied _ _ _ _ _ _ _ _ c.self.view_is c.in-Asked.is c.replace-asked.ensures.after
    (rw c.in_ok-event.ensures at c.in_ok-reply.ensures.history) c.apply.ensures.capacity
