use Rattle.cosem_datetime.proofs.EntryFacts.{tells_in, none_in}
use Rattle.cosem_datetime.proofs.entry.EntryPattern.matches_in.Goals as goal

pub returns-then-after-upto-clause-value : goal.returns-then-after-upto-clause-value
returns-then-after-upto-clause-value c =
    tells_in c.args.self.now c.args.after c.args.upto c.matches_within.result
    c.matches_within.ensures

pub returns-else-after-upto-clause-value : goal.returns-else-after-upto-clause-value
returns-else-after-upto-clause-value c =
    none_in c.args.self.now c.args.after c.args.upto c.if-after-upto.false
