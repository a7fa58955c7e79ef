use Rattle.std.proofs.Common.{take}
use Rattle.campaign_ledger.specs.MemoryBook.{EntersMarks}
use Rattle.campaign_ledger.proofs.memory_book.enter_marks.Given as goal

-- the marks so far have been entered
abbrev pub invariant-marks : goal.invariant-marks
invariant-marks l = EntersMarks (take l.place-index l.marks) l.fn.entries.items l.entries.items
