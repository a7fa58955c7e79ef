use Rattle.std.proofs.Common.{arith, refl}
use Rattle.campaign_ledger.specs.declared.entry.LedgerEntry.TheVariants.{Came}
use Rattle.sqlite_ledger.specs.Readings.{IsOutcomeRow}
use Rattle.sqlite_ledger.proofs.EntryLemmas.{enters_next}
use Rattle.sqlite_ledger.proofs.reading.enter_outcomes.Goals as goal

pub rows-preserved : goal.rows-preserved
rows-preserved c =
    let outcome = c.in_ok-outcome.outcome in
    enters_next IsOutcomeRow c.args.rows.now c.rows.row-index c.row-item.result
    c.in_ok-place.place (Came outcome) c.args.entries.now c.rows.entries (omega arith)
    c.row-item.is c.rows.invariant (
      outcome,
      c.in_ok-place.ensures.ok.1,
      c.in_ok-outcome.ensures.0,
      c.in_ok-outcome.ensures.1,
      refl,
    )
    (omega arith)
