use Rattle.relay_core.specs.Machine.{at_event}
use Rattle.relay_core.proofs.RunLemmas.{same_line}
use Rattle.relay_core.proofs.running.step_to_line.Goals as goal

pub returns-clause-line : goal.returns-clause-line
returns-clause-line c = λ w stands.
    let after = at_event c.args.event.now w in
    let goes = c.in_ok-reply.ensures.world w stands in
    same_line _ _ _ after (c.in_ok-reply.ensures.reply w stands) (c.state.ensures after.world goes)
    (c.output.ensures after.world goes)
