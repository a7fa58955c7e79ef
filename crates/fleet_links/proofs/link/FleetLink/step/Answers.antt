use Rattle.std.proofs.Common.{rules, ap}
use Rattle.fleet_links.proofs.Turning.{step_wrote, step_frame, step_waiting, step_long, step_ended, step_failed}
use Rattle.fleet_links.proofs.link.FleetLink.step.Goals as goal

pub returns-then-not-is_empty-clause-turns : goal.returns-then-not-is_empty-clause-turns
returns-then-not-is_empty-clause-turns g c = step_wrote _ _ _ _ _ _ _ _ c.requires.is_open
    (search rules) c.write_pending.ensures.writes

pub returns-in-Ok-Frame-clause-turns : goal.returns-in-Ok-Frame-clause-turns
returns-in-Ok-Frame-clause-turns g c = step_frame _ _ _ _ _ _ _ _ _ _ c.in-Ok-Frame.count
    c.in-Ok-Frame.field-0 _ c.in-Ok-Frame.field-0-is c.in-Ok-Frame.ensures.next
    (ap g.S.Stream.state c.queue.ensures.stream) c.queue.ensures.queues

pub returns-in-Ok-Wait-clause-turns : goal.returns-in-Ok-Wait-clause-turns
returns-in-Ok-Wait-clause-turns g c = step_waiting _ _ _ _ _ _ _ _ _ _ _ c.in-Ok-Wait.field-0 _
    c.in-Ok-Wait.field-0-is c.in-Ok-Wait.ensures.next (search rules) c.read.ensures.feeds

pub returns-in-Ok-NoRoom-clause-turns : goal.returns-in-Ok-NoRoom-clause-turns
returns-in-Ok-NoRoom-clause-turns g c = step_long _ _ _ _ _ _ _ _ c.in-Ok-NoRoom.field-0
    c.in-Ok-NoRoom.field-0-is c.in-Ok-NoRoom.ensures.next

pub returns-in-Ok-End-clause-turns : goal.returns-in-Ok-End-clause-turns
returns-in-Ok-End-clause-turns g c = step_ended _ _ _ _ _ _ _ _ _ c.in-Ok-End.field-0
    (search rules) c.in-Ok-End.field-0-is c.in-Ok-End.ensures.next

pub returns-in-Err-clause-turns : goal.returns-in-Err-clause-turns
returns-in-Err-clause-turns g c = step_failed _ _ _ _ _ _ _ _ c.in-Err.field-0 c.requires.is_open
    c.in-Err.ensures.next
