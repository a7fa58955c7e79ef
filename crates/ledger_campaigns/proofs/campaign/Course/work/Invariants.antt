use Rattle.std.proofs.Common.{◌≡◌, length}
use Rattle.turn_lock.specs.Shown.{IsSame}
use Rattle.head_end.specs.Campaigns.{EachChange}
use Rattle.ledger_campaigns.specs.Rounds.{IsPlaceRunUpTo}
use Rattle.ledger_campaigns.proofs.campaign.Course.work.Given as goal

-- the jobs of the rounds so far are run, and the places of the others are unchanged
abbrev pub invariant-rounds : goal.invariant-rounds
invariant-rounds g l = (length l.places ≡ length l.fn.places)
    × EachChange (λ i o n. IsPlaceRunUpTo (λ p. g.C.Connector.tells p.attempt.source.value)
    (λ p. p.port) (λ p. p.row) (λ p. p.attempt.stage) l.self.jobs.now
    l.self.found.now l.self.passwords.now l.self.rounds.now l.round i o n
    × IsSame o.port n.port) l.fn.places l.places
