use Rattle.std.proofs.Common.{arith, refl}
use Rattle.campaign_ledger.specs.declared.entry.LedgerEntry.TheVariants.{MaybeSent}
use Rattle.sqlite_ledger.specs.Readings.{IsMarkRow}
use Rattle.sqlite_ledger.proofs.EntryLemmas.{enters_next}
use Rattle.sqlite_ledger.proofs.reading.enter_marks.Goals as goal

pub rows-preserved : goal.rows-preserved
rows-preserved c = enters_next IsMarkRow c.args.rows.now c.rows.row-index c.row-item.result
    c.in_ok-place.place MaybeSent c.args.entries.now c.rows.entries (omega arith) c.row-item.is
    c.rows.invariant (c.in_ok-place.ensures.ok.1, refl) (omega arith)
