use denote.Param.Send.{sendable}
use Rattle.std.proofs.Common.{slice_index_or}
use Rattle.std.proofs.Crossing.{crosses}
use Rattle.turn_lock.proofs.Sent.{port_send}
use Rattle.turn_lock.specs.Shown.{IsSame}
use Rattle.ledger_campaigns.specs.Rounds.{IsPlaceRound}
use Rattle.ledger_campaigns.proofs.RoundLemmas.{moved}
use Rattle.ledger_campaigns.proofs.campaign.Course.work_round.Goals as goal

pub for_each_mut-requires-send-T : goal.for_each_mut-requires-send-T
for_each_mut-requires-send-T g c κs within =
    let book = c.type_bounds.send-B in
    let connector = c.type_bounds.sync-C in
    search (sendable, crosses, port_send) depth 40 fits 100000

pub returns : goal.returns
returns g c = record {
  runs = λ i place below.
      let changes = (c.for_each_mut.ensures i place below).1 in
      moved (slice_index_or c.args.places.now i place) changes.argument.now
      (slice_index_or c.for_each_mut.new.s i place) changes.after_call.now
      (λ o n. IsPlaceRound (λ p. g.C.Connector.tells p.attempt.source.value)
      (λ p. p.port) (λ p. p.row) (λ p. p.attempt.stage)
      c.args.self.now.jobs.now c.args.self.now.found.now c.args.self.now.passwords.now
      c.args.self.now.rounds.now c.args.round i o n × IsSame o.port n.port)
      changes.argument_is changes.left changes.call;
}
