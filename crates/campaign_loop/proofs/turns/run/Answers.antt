use Rattle.campaign_loop.proofs.Running.{runs_end}
use Rattle.campaign_loop.proofs.turns.run.Goals as goal

pub returns-then-not-turn : goal.returns-then-not-turn
returns-then-not-turn g c = runs_end g.B.Book.is_honest g.B.Book.is_marked c.args.list.now.jobs.now
    c.args.list.now.passwords.now c.args.list.now.choices.now c.end_of.result c.args.board.now
    c.turns.board c.turn.new.board _ _ _ c.turns.invariant c.turn.ensures.driven
    (c.turn.ensures.idle c.if-not-turn.true) c.end_of.ensures
