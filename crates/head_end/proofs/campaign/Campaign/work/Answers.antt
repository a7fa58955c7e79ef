use Rattle.std.proofs.Common.{arith}
use Rattle.head_end.proofs.RoundLemmas.{all_up_to_next, up_to_last}
use Rattle.head_end.proofs.campaign.Campaign.work.Goals as goal

pub rounds-preserved : goal.rounds-preserved
rounds-preserved g c = (
  omega (arith, c.rounds.invariant.0),
  all_up_to_next (λ p. g.C.Connector.tells p.attempt.source.value) (λ p. p.attempt.stage)
      (λ p. p.row) c.args.self.now.turns c.args.self.now.workers c.args.self.now.jobs.now
      c.args.self.now.passwords.now c.args.self.now.rounds.now c.rounds.round
      c.args.places.now c.rounds.places c.work_round.new.places c.rounds.invariant.0
      c.rounds.invariant.1 c.work_round.ensures,
)

pub returns : goal.returns
returns g c =
    up_to_last (λ p. g.C.Connector.tells p.attempt.source.value) (λ p. p.attempt.stage)
    (λ p. p.row) c.args.self.now.turns c.args.self.now.workers c.args.self.now.jobs.now
    c.args.self.now.passwords.now c.args.self.now.rounds.now c.args.self.now.count c.rounds.round
    c.args.places.now c.rounds.places c.args.self.now.ordered
    (omega (arith, c.rounds-test.false)) c.rounds.invariant.1
