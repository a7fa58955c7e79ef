use Rattle.campaign_board.proofs.TalkLemmas.{receives_any}
use Rattle.campaign_board.proofs.talk.Talk.receive.Goals as goal

pub returns : goal.returns
returns c = receives_any c.args.self.now c.feed.new.self c.args.bytes.now c.feed.result
    c.feed.ensures.ok c.feed.ensures.err
