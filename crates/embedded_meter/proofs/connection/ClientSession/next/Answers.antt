use Rattle.std.proofs.Common.{refl}
use Rattle.embedded_meter.proofs.Advancing.{advances_none}
use Rattle.embedded_meter.proofs.connection.ClientSession.next.Goals as goal

pub returns-then-is_idle-clause-gives : goal.returns-then-is_idle-clause-gives
returns-then-is_idle-clause-gives c = (advances_none _ _, c.if-is_idle.ensures refl, refl)
