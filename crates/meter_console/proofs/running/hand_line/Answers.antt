use Rattle.meter_console.proofs.Handing.{one_taken, none_taken, lost_taken}
use Rattle.meter_console.proofs.running.hand_line.Goals as goal

pub returns-in-Ok-Some-clause-ok : goal.returns-in-Ok-Some-clause-ok
returns-in-Ok-Some-clause-ok g c = one_taken _ _ _ _
    (rw c.in-Ok-Some.field-0-is at c.in-Ok-Some.ensures.event) c.take.ensures

pub returns-in-Ok-None-clause-ok : goal.returns-in-Ok-None-clause-ok
returns-in-Ok-None-clause-ok g c = none_taken _ _
    (rw c.in-Ok-None.field-0-is at c.in-Ok-None.ensures.none)

pub returns-in-Err-clause-err : goal.returns-in-Err-clause-err
returns-in-Err-clause-err g c = lost_taken _ _ c.in-Err.ensures.err
