use Rattle.std.proofs.Common.{◌≡◌, ℕ, None, length, replicate, subst, arith}
use Rattle.sqlite.specs.Held.{Held, state}
use Rattle.sqlite_ledger.specs.Campaigns.{ShowsCampaign}
use Rattle.sqlite_ledger.specs.Lines.{AreLinesOf, IsTimeRow, ShowsLines, select_begun_times}
use Rattle.sqlite_ledger.specs.Lines.{select_outcome_times}
use Rattle.sqlite_ledger.specs.Readings.{EntersShown, ShowsEntries}
use Rattle.sqlite_ledger.proofs.ReadLemmas.{ok_map}
use Rattle.sqlite_ledger.proofs.reading.read_known.Goals as goal

pub returns-clause-lines : goal.returns-clause-lines
returns-clause-lines g c clean has =
    let of = λ (conn : Held g.row.S.Denot). state g.S.Store conn in
    let listed = c.select_jobs.new.conn in
    let checked = c.check_campaign.new.conn in
    let entered = c.read_entries.new.conn in
    let timed = c.read_begun_times.new.conn in
    let now = c.read_outcome_times.new.conn in
    let timed_clean = c.read_outcome_times.ensures.clean clean in
    let entered_clean = c.read_begun_times.ensures.clean timed_clean in
    let checked_clean = c.read_entries.ensures.clean entered_clean in
    let listed_clean = c.check_campaign.ensures.clean checked_clean in
    let rows = c.in_ok-rows.rows.items in
    let entries = c.in_ok-entries.entries.items in
    let begun = c.in_ok-begun.begun.items in
    let ended = c.in_ok-ended.ended.items in
    let jobs_len : c.len.result ≡ length rows = omega arith in
    let entries_len : c.len-2.result ≡ length rows = omega arith in
    let begun_len : c.len-3.result ≡ length rows = omega arith in
    let ended_len : c.len-4.result ≡ length rows = omega arith in
    ok_map c.lines_of.result
    (λ lines. AreLinesOf c.deref.result.now c.deref-2.result.now c.deref-3.result.now
    c.deref-4.result.now lines.items)
    (λ lines. ShowsLines of c.args.conn.now now lines.items) c.lines_of.ensures
    (λ lines are. record {
      listed = listed;
      rows = rows;
      jobs_shown = c.in_ok-rows.ensures.shown listed_clean;
      entered = entered;
      entries = entries;
      checked = checked;
      campaign = subst (λ (count : ℕ). ShowsCampaign (of listed) (of checked) count) jobs_len
          (c.in_ok-check_campaign.ensures.campaign checked_clean);
      entries_shown = subst (λ (count : ℕ). ShowsEntries of checked entered count entries)
          entries_len (c.in_ok-entries.ensures.entries entered_clean);
      timed = timed;
      begun = begun;
      begun_shown = subst (λ (count : ℕ). EntersShown select_begun_times IsTimeRow (of entered)
          (of timed) (replicate count None) begun) begun_len
          (c.in_ok-begun.ensures.times timed_clean);
      ended = ended;
      ended_shown = subst (λ (count : ℕ). EntersShown select_outcome_times IsTimeRow (of timed)
          (of now) (replicate count None) ended) ended_len
          (c.in_ok-ended.ensures.times clean);
      lines_are = rw (
        c.deref.ensures.value,
        c.deref-2.ensures.value,
        c.deref-3.ensures.value,
        c.deref-4.ensures.value,
      ) at are;
    })
