use Rattle.meter_fleet.proofs.Rounding.{serves_by}
use Rattle.meter_fleet.proofs.serving.serve_fleet.Goals as goal

pub returns-in-Ok : goal.returns-in-Ok
returns-in-Ok g c = serves_by _ _ _ _ _ _ c.serve-fault.result c.in-Ok.ensures
    c.serve-fault.ensures
