use Rattle.std.proofs.Common.{arith, rules}
use Rattle.campaign_ledger.proofs.MemoryLemmas.{marks_next}
use Rattle.campaign_ledger.proofs.memory_book.enter_marks.Goals as goal

pub marks-preserved : goal.marks-preserved
marks-preserved c = marks_next c.args.marks.now c.marks.place-index 0 c.args.entries.now.items
    c.marks.entries.items (omega arith) c.marks.invariant (search rules)
