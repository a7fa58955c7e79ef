use Rattle.std.proofs.Common.{slice_index_or}
use Rattle.head_end.proofs.RoundLemmas.{round_moved}
use Rattle.head_end.proofs.campaign.Campaign.work_round.Goals as goal

pub returns : goal.returns
returns g c = λ slot place below.
    let changes = (c.for_each_mut.ensures slot place below).1 in
    round_moved (slice_index_or c.args.places.now slot place) changes.argument.now
    (slice_index_or c.for_each_mut.new.s slot place) changes.after_call.now
    (λ p. g.C.Connector.tells p.attempt.source.value) (λ p. p.attempt.stage) (λ p. p.row)
    c.args.self.now.turns c.args.self.now.workers c.args.self.now.jobs.now
    c.args.self.now.passwords.now c.args.self.now.rounds.now c.args.round slot
    changes.argument_is changes.left changes.call
