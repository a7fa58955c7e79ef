-- The new limiter represents the rows that restore it.
use Rattle.std.proofs.Common.{rules}
use Rattle.limiter_core.specs.State.{IsFit}
use Rattle.limiter_core.proofs.Opening.{opened}
use Rattle.limiter_core.proofs.limiter.Limiter.with_runs.Goals as goal

pub returns-clause-rows : goal.returns-clause-rows
returns-clause-rows c =
    let fit : IsFit c.args.last c.args.over c.args.under = search rules in
    opened (record {
      settings = c.self.inside.settings;
      moment = c.self.inside.moment;
      last = c.args.last;
      over = c.args.over;
      under = c.args.under;
    }) fit
