use Rattle.campaign_wires.specs.Outboxes.{WritesFront}
use Rattle.campaign_wires.proofs.outbox.Outbox.write_to.Given as goal

abbrev pub invariant-writes : goal.invariant-writes
invariant-writes g l = WritesFront (g.W.Write.contents l.fn.stream) (g.W.Write.contents l.stream)
    l.fn.self l.self
