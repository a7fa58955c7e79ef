use Rattle.std.proofs.Common.{arith, refl}
use Rattle.ledger_campaigns.proofs.RoundLemmas.{up_to_first, up_to_next, up_to_last}
use Rattle.ledger_campaigns.proofs.campaign.Course.work.Goals as goal

pub rounds-init : goal.rounds-init
rounds-init g c = (
  refl,
  up_to_first (λ p. g.C.Connector.tells p.attempt.source.value)
      (λ p. p.port) (λ p. p.row) (λ p. p.attempt.stage)
      c.args.self.now.jobs.now c.args.self.now.found.now c.args.self.now.passwords.now
      c.args.self.now.rounds.now c.args.places.now,
)

pub rounds-preserved : goal.rounds-preserved
rounds-preserved g c = (
  omega (arith, c.rounds.invariant.0),
  up_to_next (λ p. g.C.Connector.tells p.attempt.source.value)
      (λ p. p.port) (λ p. p.row) (λ p. p.attempt.stage)
      c.args.self.now.jobs.now c.args.self.now.found.now c.args.self.now.passwords.now
      c.args.self.now.rounds.now c.rounds.round c.args.places.now c.rounds.places
      c.work_round.new.places c.rounds.invariant.0 c.rounds.invariant.1 c.work_round.ensures.runs,
)

pub returns : goal.returns
returns g c = record {
  runs = up_to_last (λ p. g.C.Connector.tells p.attempt.source.value)
      (λ p. p.port) (λ p. p.row) (λ p. p.attempt.stage)
      c.args.self.now.jobs.now c.args.self.now.found.now c.args.self.now.passwords.now
      c.args.self.now.rounds.now c.args.self.now.count c.rounds.round c.args.places.now
      c.rounds.places c.args.self.now.ordered c.requires.count
      (omega (arith, c.rounds-test.false)) c.rounds.invariant.1;
}
