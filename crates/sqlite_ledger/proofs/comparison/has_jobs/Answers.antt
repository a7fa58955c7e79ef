use Rattle.std.proofs.Common.{rules}
use Rattle.sqlite.specs.Held.{state}
use Rattle.sqlite_ledger.specs.Jobs.{ListsJobs}
use Rattle.sqlite_ledger.proofs.comparison.has_jobs.Goals as goal

pub returns-clause-jobs : goal.returns-clause-jobs
returns-clause-jobs g c clean done =
    let early = c.check_campaign.ensures.clean clean in
    let lists : ListsJobs (state g.S.Store c.args.conn.now) (state g.S.Store c.lists_jobs.new.conn)
    c.args.jobs.now = c.in_ok-lists_jobs.ensures.lists early (search rules) in
    record {
      listed = c.lists_jobs.new.conn;
      lists = lists;
      campaign = c.in_ok-check_campaign.ensures.campaign clean;
    }
