use Rattle.trace_openings.specs.OpeningRows.{opening_rows}
use Rattle.trace_openings.proofs.OpeningText.{joined, joined_last}
use Rattle.trace_openings.proofs.opening_writing.write_opening.Goals as goal

pub returns : goal.returns
unfolding opening_rows
returns c =
    let two = joined _ _ _ _ _ c.in_ok-write_head.ensures c.in_ok-write_last.ensures in
    let three = joined _ _ _ _ _ two c.in_ok-write_moment.ensures in
    let four = joined _ _ _ _ _ three c.in_ok-write_limiter.ensures in
    let five = joined _ _ _ _ _ four c.in_ok-write_last-2.ensures in
    let six = joined _ _ _ _ _ five c.in_ok-write_limiter-2.ensures in
    let seven = joined _ _ _ _ _ six c.in_ok-write_scripts.ensures in
    joined_last _ _ _ _ _ c.write_schedules.result seven c.write_schedules.ensures
