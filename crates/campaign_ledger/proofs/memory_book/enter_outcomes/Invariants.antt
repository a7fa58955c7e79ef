use Rattle.std.proofs.Common.{take}
use Rattle.campaign_ledger.specs.MemoryBook.{EntersOutcomes}
use Rattle.campaign_ledger.proofs.memory_book.enter_outcomes.Given as goal

-- the outcomes so far have been entered
abbrev pub invariant-outcomes : goal.invariant-outcomes
invariant-outcomes l = EntersOutcomes (take l.ended-index l.outcomes) l.fn.entries.items
    l.entries.items
