use Rattle.trace_openings.proofs.OpeningText.{joined, joined_last}
use Rattle.trace_openings.proofs.opening_writing.write_schedules.Goals as goal

pub returns : goal.returns
returns c =
    joined_last _ _ _ _ _ c.write_schedule-4.result
    (joined _ _ _ _ _
    (joined _ _ _ _ _ c.in_ok-write_schedule.ensures c.in_ok-write_schedule-2.ensures)
    c.in_ok-write_schedule-3.ensures) c.write_schedule-4.ensures
