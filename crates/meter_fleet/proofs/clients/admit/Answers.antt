use Rattle.meter_fleet.proofs.Meeting.{admits_at, refused_at}
use Rattle.meter_fleet.proofs.clients.admit.Goals as goal

pub returns-in-Ok : goal.returns-in-Ok
returns-in-Ok g c = admits_at _ _ _ _ _ _ _ c.in-Some.ensures c.in-Ok.ensures.key
    c.in-Ok.ensures.admits

pub returns-in-Err : goal.returns-in-Err
returns-in-Err g c = refused_at _ _ _ _ _ _ _ c.in-Some.ensures c.in-Err.ensures.admits
