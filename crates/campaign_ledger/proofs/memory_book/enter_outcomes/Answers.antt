use Rattle.std.proofs.Common.{arith, rules}
use Rattle.campaign_ledger.proofs.MemoryLemmas.{outcomes_next}
use Rattle.campaign_ledger.proofs.memory_book.enter_outcomes.Goals as goal

pub outcomes-preserved : goal.outcomes-preserved
outcomes-preserved c = outcomes_next c.args.outcomes.now c.outcomes.ended-index _
    c.args.entries.now.items c.outcomes.entries.items (omega arith) c.outcomes.invariant
    (search rules) (search rules)
