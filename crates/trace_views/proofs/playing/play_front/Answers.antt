use Rattle.trace_views.proofs.FrontFaults.{no_front}
use Rattle.trace_views.proofs.playing.play_front.Goals as goal

pub returns-in-Err : goal.returns-in-Err
returns-in-Err g c = rw c.play_fault.ensures (no_front g.W.Writer.contents g.W.Writer.failures
    c.args.view.now c.args.text.now c.args.writer.now c.in-Err.fault c.in-Err.ensures.err)
