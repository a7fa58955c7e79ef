-- The counts after the jump are those of the samples.
use Rattle.std.proofs.Common.{rules, ◌<◌}
use Rattle.limiter_core.proofs.Skipping.{keeps_after}
use Rattle.limiter_core.proofs.limiter.Limiter.skip_run.Goals as goal

pub returns-then-n-gt0-clause-rows : goal.returns-then-n-gt0-clause-rows
returns-then-n-gt0-clause-rows c = λ rows values keeps kinds count.
    let some : 0 < c.args.n = search rules in
    keeps_after c.args.kind c.args.self.now c.jump.new.self rows values c.args.n c.args.last
    c.jump.ensures.limiter keeps kinds count some c.requires.quiet c.jump.ensures.state
