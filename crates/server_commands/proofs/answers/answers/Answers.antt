use Rattle.server_commands.proofs.AnswerLemmas.{new_answered}
use Rattle.server_commands.proofs.answers.answers.Goals as goal

pub returns : goal.returns
returns c =
    new_answered c.in_ok-device.device c.args.requests.now c.in_ok-core.core
    c.add_answers-added.new.core c.add_answers-added.new.lines.items
    c.in_ok-device.ensures c.in_ok-core.ensures (rw c.new-lines.ensures.items at
    c.in_ok-added.ensures)
