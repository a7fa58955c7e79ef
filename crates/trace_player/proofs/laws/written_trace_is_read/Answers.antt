use Rattle.trace_player.proofs.TraceAgain.{trace_again}
use Rattle.trace_player.proofs.laws.written_trace_is_read.Goals as goal

pub returns : goal.returns
returns c =
    trace_again c.written_opening_is_read.ensures.read_back c.written_opening_is_read.ensures.rows
