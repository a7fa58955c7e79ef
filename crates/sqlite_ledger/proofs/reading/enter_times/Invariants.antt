use Rattle.std.proofs.Common.{take}
use Rattle.sqlite_ledger.specs.Lines.{IsTimeRow}
use Rattle.sqlite_ledger.specs.Readings.{Enters}
use Rattle.sqlite_ledger.proofs.reading.enter_times.Given as goal

-- the rows so far have set their times
abbrev pub invariant-rows : goal.invariant-rows
invariant-rows l = Enters IsTimeRow (take l.row-index l.rows) l.fn.times l.times
