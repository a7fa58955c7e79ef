use Rattle.trace_openings.proofs.OpeningText.{joined, joined_last}
use Rattle.trace_openings.proofs.opening_writing.write_head.Goals as goal

pub returns : goal.returns
returns c =
    joined_last _ _ _ _ _ c.write_mode.result
    (joined _ _ _ _ _
    (joined _ _ _ _ _ c.in_ok-write_number_line.ensures c.in_ok-write_device.ensures)
    c.in_ok-write_state.ensures) c.write_mode.ensures
