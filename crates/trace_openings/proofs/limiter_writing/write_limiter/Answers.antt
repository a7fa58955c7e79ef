use Rattle.trace_openings.proofs.OpeningText.{joined, joined_last}
use Rattle.trace_openings.proofs.limiter_writing.write_limiter.Goals as goal

pub returns : goal.returns
returns c = joined_last _ _ _ _ _ c.write_count-2.result
    (joined _ _ _ _ _ c.in_ok-write_settings.ensures c.in_ok-write_count.ensures)
    c.write_count-2.ensures
