use Rattle.meter_fleet.proofs.ServedKeys.{serves_absent_on, serves_idle_on, serves_busy_on}
use Rattle.meter_fleet.proofs.ServedKeys.{serves_over_on, stops_busy}
use Rattle.meter_fleet.proofs.connections.serve_key.Goals as goal

pub returns-in-Ok : goal.returns-in-Ok
returns-in-Ok g c = serves_busy_on _ _ _ _ _ _ c.in-Some-Again.field-0 c.in-Some-Again.field-0-is
    c.requires.room c.in-Some-Again.ensures c.in-Ok.ensures.items

pub returns-in-Err : goal.returns-in-Err
returns-in-Err g c = stops_busy _ _ _ _ c.in-Some-Again.field-0 c.in-Some-Again.field-0-is
    c.requires.room c.in-Some-Again.ensures

pub returns-in-Some-Over : goal.returns-in-Some-Over
returns-in-Some-Over g c = serves_over_on g.S.Stream.state _ _ _ _ _ _ _ c.in-Some-Over.field-0
    c.close-stream.result c.in-Some-Over.field-0-is c.requires.room c.in-Some-Over.ensures
    c.close-stream.ensures.closed c.close-stream.ensures.absent

pub returns-in-Some-Waits : goal.returns-in-Some-Waits
returns-in-Some-Waits g c = serves_idle_on _ _ _ _ _ c.in-Some-Waits.field-0
    c.in-Some-Waits.field-0-is c.requires.room c.in-Some-Waits.ensures

pub returns-in-None : goal.returns-in-None
returns-in-None g c = serves_absent_on _ _ _ _ c.in-None.ensures
