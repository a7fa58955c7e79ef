use Rattle.std.proofs.Common.{take}
use Rattle.sqlite_ledger.specs.Readings.{Enters, IsMarkRow}
use Rattle.sqlite_ledger.proofs.reading.enter_marks.Given as goal

-- the marks so far have set their entries
abbrev pub invariant-rows : goal.invariant-rows
invariant-rows l = Enters IsMarkRow (take l.row-index l.rows) l.fn.entries l.entries
