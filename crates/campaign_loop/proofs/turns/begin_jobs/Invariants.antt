use Rattle.campaign_loop.specs.Driving.{DrivesJobs}
use Rattle.campaign_loop.proofs.turns.begin_jobs.Given as goal

-- the loop so far continues the steps
abbrev pub invariant-jobs : goal.invariant-jobs
invariant-jobs g l = DrivesJobs g.B.Book.is_honest g.B.Book.is_marked l.fn.list.jobs.now
    l.fn.list.passwords.now l.fn.list.choices.now l.fn.board (g.W.Wires.log l.fn.wires) l.board
    (g.W.Wires.log l.wires)
