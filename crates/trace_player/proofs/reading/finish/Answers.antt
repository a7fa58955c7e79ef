use Rattle.std.proofs.Common.{sym}
use Rattle.trace_player.proofs.Ends.{unended_as}
use Rattle.trace_player.proofs.reading.finish.Goals as goal

pub returns-in-Err-clause-ended : goal.returns-in-Err-clause-ended
returns-in-Err-clause-ended c = sym (unended_as c.args.lines.now c.args.trace c.in-Err.fault
    (sym c.in-Err.ensures))
