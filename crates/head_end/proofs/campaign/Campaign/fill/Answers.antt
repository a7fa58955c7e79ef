use Rattle.std.proofs.Common.{arith, ◌∙◌}
use Rattle.head_end.proofs.CampaignLemmas.{campaign_lines, same_length, same_names, row_at}
use Rattle.head_end.proofs.CampaignLemmas.{are_tried}
use Rattle.head_end.proofs.campaign.Campaign.fill.Goals as goal

pub gather-requires-clause-within_max : goal.gather-requires-clause-within_max
gather-requires-clause-within_max g c = omega (
  arith,
  same_length c.args.self.now.jobs.now c.args.lines.now c.requires.names,
  c.requires.room,
)

pub returns-clause-lines : goal.returns-clause-lines
returns-clause-lines g c = λ tells all.
    campaign_lines tells c.args.self.now.turns c.args.self.now.workers c.args.self.now.jobs.now
    c.args.lines.now
    c.gather.new.lines _
    c.args.self.now.some_workers c.requires.room c.requires.names
    (row_at c.args.places.now c.work.new.places (λ p. g.C.Connector.tells p.attempt.source.value)
    (λ p. p.attempt.stage) (λ p. p.row) tells
    c.args.self.now.turns c.args.self.now.workers c.args.self.now.jobs.now
    c.args.self.now.passwords.now c.requires.slots
    (omega arith) c.work.ensures all)
    (record {
      rows = λ i line row below. c.gather.ensures.rows i line row below;
      ids = λ i line below. c.gather.ensures.ids i line below;
      len = c.gather.ensures.len;
    })

pub returns-clause-tried : goal.returns-clause-tried
returns-clause-tried g c =
    are_tried c.args.places.now c.work.new.places
    (λ p. g.C.Connector.tells p.attempt.source.value) (λ p. p.attempt.stage) (λ p. p.row)
    c.args.self.now.turns c.args.self.now.workers c.args.self.now.jobs.now
    c.args.self.now.passwords.now c.args.lines.now
    c.gather.new.lines
    c.args.self.now.some_workers c.requires.room c.requires.names c.requires.slots
    (omega arith) c.work.ensures
    (record {
      rows = λ i line row below. c.gather.ensures.rows i line row below;
      ids = λ i line below. c.gather.ensures.ids i line below;
      len = c.gather.ensures.len;
    })

pub returns-clause-names : goal.returns-clause-names
returns-clause-names g c =
    same_names c.args.lines.now c.gather.new.lines c.gather.ensures.len
    (λ i line below. c.gather.ensures.ids i line below) ∙ c.requires.names
