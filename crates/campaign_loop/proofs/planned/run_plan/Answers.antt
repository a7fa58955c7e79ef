use Rattle.campaign_loop.proofs.Running.{runs_plan}
use Rattle.campaign_loop.proofs.planned.run_plan.Goals as goal

pub returns-in-Ok : goal.returns-in-Ok
returns-in-Ok g c = runs_plan g.B.Book.is_honest g.B.Book.is_marked c.args.plan.now.list
    c.args.plan.now.limit c.args.book c.args.found.items c.in-Ok.report c.in_ok-board.board
    c.run_campaign.new.board _ _ c.in_ok-board.ensures.board c.in_ok-board.ensures.book
    c.in-Ok.ensures.report
