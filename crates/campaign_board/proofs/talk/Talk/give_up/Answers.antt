use Rattle.campaign_board.proofs.TalkLemmas.{gives_up}
use Rattle.campaign_board.proofs.talk.Talk.give_up.Goals as goal

pub returns-clause-outcome : goal.returns-clause-outcome
returns-clause-outcome c = rw c.unwrap_or.ensures (gives_up c.args.self.now c.ended.new.self
    c.outcome.result c.ended.ensures c.outcome.ensures)
