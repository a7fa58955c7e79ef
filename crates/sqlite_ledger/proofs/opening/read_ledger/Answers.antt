use Rattle.std.proofs.Common.{length, rules}
use Rattle.sqlite.specs.Held.{Held, state}
use Rattle.sqlite_ledger.specs.Jobs.{ShowsJobs}
use Rattle.sqlite_ledger.specs.Lines.{HasLedger}
use Rattle.sqlite_ledger.specs.Readings.{ShowsEntries}
use Rattle.sqlite_ledger.proofs.ReadLemmas.{ok_map}
use Rattle.sqlite_ledger.proofs.opening.read_ledger.Goals as goal

pub returns-clause-ledger : goal.returns-clause-ledger
returns-clause-ledger g c clean old =
    let of = λ (conn : Held g.row.S.Denot). state g.S.Store conn in
    let jobs = c.args.jobs.now in
    let early = c.read_entries.ensures.clean clean in
    let shows : ShowsJobs of c.args.conn.now c.has_jobs.new.conn jobs =
    c.in_ok-has_jobs.ensures.jobs early (search rules) in
    ok_map c.read_entries.result
    (λ entries. ShowsEntries of c.has_jobs.new.conn c.read_entries.new.conn (length jobs)
    entries.items)
    (λ entries. HasLedger of c.args.conn.now c.read_entries.new.conn jobs entries.items)
    (c.read_entries.ensures.entries clean)
    (λ entries shown. record {
      checked = c.has_jobs.new.conn;
      jobs_shown = shows;
      unchanged = c.in_ok-has_jobs.ensures.unchanged early;
      entries_shown = shown;
    })
