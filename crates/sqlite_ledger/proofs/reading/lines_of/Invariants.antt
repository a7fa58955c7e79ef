use Rattle.std.proofs.Common.{◌≡◌, length, take}
use Rattle.sqlite_ledger.specs.Lines.{AreLinesOf}
use Rattle.sqlite_ledger.proofs.reading.lines_of.Given as goal

-- the lines so far are those of the rows so far
abbrev pub invariant-rows : goal.invariant-rows
invariant-rows l = (length l.lines.items ≡ l.row-index)
    × AreLinesOf (take l.row-index l.rows) (take l.row-index l.entries)
    (take l.row-index l.begun) (take l.row-index l.ended) l.lines.items
