use Rattle.head_end.proofs.Steps.{gives_up}
use Rattle.head_end.proofs.conversing.give_up.Goals as goal

pub returns : goal.returns
returns c = rw c.unwrap_or.ensures (gives_up c.args.client.now c.ended.new.self c.outcome.result
    c.ended.ensures c.outcome.ensures)
