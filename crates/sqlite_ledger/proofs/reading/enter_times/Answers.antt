use Rattle.std.proofs.Common.{arith, rules}
use Rattle.sqlite_ledger.specs.Lines.{IsTimeRow}
use Rattle.sqlite_ledger.proofs.EntryLemmas.{enters_next}
use Rattle.sqlite_ledger.proofs.reading.enter_times.Goals as goal

pub rows-preserved : goal.rows-preserved
rows-preserved c =
    let is : IsTimeRow c.row-item.result c.in_ok-place.place c.time_of.result = search rules in
    enters_next IsTimeRow c.args.rows.now c.rows.row-index c.row-item.result
    c.in_ok-place.place c.time_of.result c.args.times.now c.rows.times (omega arith)
    c.row-item.is c.rows.invariant is (omega arith)
