use Rattle.std.proofs.Common.{◌≡◌, List, replicate, subst, sym, ◌∙◌}
use Rattle.sqlite.specs.Held.{state}
use Rattle.campaign_ledger.specs.declared.entry.LedgerEntry.{LedgerEntry}
use Rattle.campaign_ledger.specs.declared.entry.LedgerEntry.TheVariants.{NotSent}
use Rattle.sqlite_ledger.specs.Readings.{EntersShown, IsMarkRow, IsOutcomeRow, select_begun}
use Rattle.sqlite_ledger.specs.Readings.{select_outcomes}
use Rattle.sqlite_ledger.proofs.EntryLemmas.{enters_length, whole_slice}
use Rattle.sqlite_ledger.proofs.reading.read_entries.Goals as goal

pub returns-clause-entries : goal.returns-clause-entries
returns-clause-entries g c clean =
    let marked_clean = c.read_outcomes.ensures.clean clean in
    let marks = c.in_ok-read_marks.ensures.entries marked_clean in
    let outcomes = c.in_ok-read_outcomes.ensures.entries clean in
    let len = c.in_ok-entries.entries.len in
    let blank : c.deref_mut.result.now ≡ replicate c.args.count NotSent =
    c.deref_mut.ensures.value ∙ c.in_ok-entries.ensures in
    let marked_len = enters_length IsMarkRow marks.rows c.deref_mut.result.now
    c.read_marks.new.entries marks.enters ∙ c.deref_mut.ensures.len in
    let ended_len = enters_length IsOutcomeRow outcomes.rows c.deref_mut-2.result.now
    c.read_outcomes.new.entries outcomes.enters ∙ c.deref_mut-2.ensures.len in
    let marked : c.deref_mut-2.result.now ≡ c.read_marks.new.entries =
    c.deref_mut-2.ensures.value ∙ whole_slice c.read_marks.new.entries _ len marked_len in
    record {
      between = c.read_marks.new.conn;
      marked = c.read_marks.new.entries;
      marks = subst (λ (old : List LedgerEntry). EntersShown select_begun IsMarkRow
          (state g.S.Store c.args.conn.now) (state g.S.Store c.read_marks.new.conn) old
          c.read_marks.new.entries) blank marks;
      outcomes = subst (λ (new : List LedgerEntry). EntersShown select_outcomes IsOutcomeRow
          (state g.S.Store c.read_marks.new.conn) (state g.S.Store c.read_outcomes.new.conn)
          c.read_marks.new.entries new)
          (sym (whole_slice c.read_outcomes.new.entries _ len ended_len))
          (subst (λ (old : List LedgerEntry). EntersShown select_outcomes IsOutcomeRow
          (state g.S.Store c.read_marks.new.conn) (state g.S.Store c.read_outcomes.new.conn) old
          c.read_outcomes.new.entries) marked outcomes);
    }
