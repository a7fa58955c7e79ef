use Rattle.std.proofs.Common.{take}
use Rattle.sqlite_ledger.specs.Readings.{Enters, IsOutcomeRow}
use Rattle.sqlite_ledger.proofs.reading.enter_outcomes.Given as goal

-- the outcomes so far have set their entries
abbrev pub invariant-rows : goal.invariant-rows
invariant-rows l = Enters IsOutcomeRow (take l.row-index l.rows) l.fn.entries l.entries
