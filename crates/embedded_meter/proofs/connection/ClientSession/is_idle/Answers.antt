use Rattle.embedded_meter.proofs.ShortWay.{idle_by}
use Rattle.embedded_meter.proofs.connection.ClientSession.is_idle.Goals as goal

pub returns-in-Nothing : goal.returns-in-Nothing
returns-in-Nothing c = λ idle.
    idle_by _ _ _ c.self.view_is c.in-Nothing.is (c.is_idle.ensures.quiet idle)
