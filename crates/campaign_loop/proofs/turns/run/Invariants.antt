use Rattle.campaign_loop.specs.Driving.{DrivesJobs}
use Rattle.campaign_loop.proofs.turns.run.Given as goal

-- the loop so far continues the steps
abbrev pub invariant-turns : goal.invariant-turns
invariant-turns g l = DrivesJobs g.B.Book.is_honest g.B.Book.is_marked l.fn.list.jobs.now
    l.fn.list.passwords.now l.fn.list.choices.now l.fn.board (g.W.Wires.log l.fn.wires) l.board
    (g.W.Wires.log l.wires)
