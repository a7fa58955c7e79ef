use Rattle.std.proofs.Common.{◌≡◌, length}
use Rattle.head_end.specs.Campaigns.{EachChange}
use Rattle.head_end.specs.Rounds.{IsRunUpTo}
use Rattle.head_end.proofs.campaign.Campaign.work.Given as goal

-- the jobs of the rounds so far are run, and the others wait
abbrev pub invariant-rounds : goal.invariant-rounds
invariant-rounds g l = (length l.places ≡ length l.fn.places)
    × EachChange (λ slot o n. IsRunUpTo l.self.turns l.self.workers l.self.jobs.now
    l.self.passwords.now l.self.rounds.now l.round slot
    (g.C.Connector.tells o.attempt.source.value) (g.C.Connector.tells n.attempt.source.value)
    n.attempt.stage n.row) l.fn.places l.places
