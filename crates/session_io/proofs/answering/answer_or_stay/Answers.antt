use Rattle.std.proofs.Common.{rules}
use Rattle.relay_core.specs.Machine.{at_event}
use Rattle.session_io.proofs.Valueless.{prepared_answer}
use Rattle.session_io.proofs.answering.answer_or_stay.Goals as goal

pub returns-clause-text : goal.returns-clause-text
returns-clause-text c = λ w stands.
    prepared_answer c.args.event.now c.args.asked (at_event c.args.event.now w).reply
    c.in_ok-given.given c.prepared.inside.form c.finish-text.result
    (search rules) (search rules) (search rules) (search rules) (search rules)
