use Rattle.std.proofs.Common.{arith}
use Rattle.ledger_campaigns.proofs.PlaceLemmas.{lines_for, uses_by}
use Rattle.ledger_campaigns.proofs.run.run_places.Goals as goal

pub returns-clause-lines : goal.returns-clause-lines
returns-clause-lines g c =
    lines_for c.args.places.now c.work.new.places
    (λ p. g.C.Connector.tells p.attempt.source.value) (λ p. p.port) (λ p. p.row)
    (λ p. p.attempt.stage) c.args.plan.now.jobs.now c.args.found.now
    c.args.plan.now.passwords.now c.requires.count (omega arith)
    (λ i place below. rw (← c.as_slice.ensures.jobs) (c.work.ensures.runs i place below).0)
    c.args.lines.now c.gather.new.lines c.requires.names
    (record {
      rows = λ i line row below. c.gather.ensures.rows i line row below;
      ids = λ i line below. c.gather.ensures.ids i line below;
      len = c.gather.ensures.len;
    })

pub returns-clause-uses : goal.returns-clause-uses
returns-clause-uses g c =
    uses_by c.args.places.now c.work.new.places
    (λ p. g.C.Connector.tells p.attempt.source.value) (λ p. p.port) (λ p. p.row)
    (λ p. p.attempt.stage) c.args.plan.now.jobs.now c.args.found.now
    c.args.plan.now.passwords.now c.requires.count (omega arith)
    (λ i place below. rw (← c.as_slice.ensures.jobs) (c.work.ensures.runs i place below).0)
    c.args.lines.now c.gather.new.lines c.requires.names
    (record {
      rows = λ i line row below. c.gather.ensures.rows i line row below;
      ids = λ i line below. c.gather.ensures.ids i line below;
      len = c.gather.ensures.len;
    })
