use Rattle.campaign_loop.specs.Driving.{Drives}
use Rattle.campaign_loop.proofs.driving.answer_all.Given as goal

-- the loop so far continues the steps
abbrev pub invariant-marked : goal.invariant-marked
invariant-marked g l = Drives g.B.Book.is_honest g.B.Book.is_marked l.fn.board
    (g.W.Wires.log l.fn.wires) l.board (g.W.Wires.log l.wires)
