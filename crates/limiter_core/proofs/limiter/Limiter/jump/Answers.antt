-- The fields form a limiter after samples under the threshold.
use Rattle.std.proofs.Common.{◌∙◌, ◌≤◌, subst}
use Rattle.limiter_core.specs.declared.kinds.Kind.{Kind}
use Rattle.limiter_core.specs.State.{quiet_count}
use Rattle.limiter_core.proofs.Skipping.{jump_under}
use Rattle.limiter_core.proofs.limiter.Limiter.jump.Goals as goal

pub invariant_of-self-in-Under : goal.invariant_of-self-in-Under
invariant_of-self-in-Under c =
    let Few : Kind → Type 0 = λ kind. c.args.n ≤ quiet_count kind c.args.self.now in
    jump_under (record {
      settings = c.self.inside.settings;
      moment = c.self.inside.moment;
      last = c.self.inside.last;
      over = c.self.inside.over;
      under = c.self.inside.under;
    })
    c.args.self.now c.zero-self-inside-in-Under.result c.skip-in-Under.new.self c.args.n c.args.last
    c.self.view_is c.zero-self-inside-in-Under.ensures c.skip-in-Under.ensures c.requires.non_zero
    (subst Few c.in-Under.is c.requires.quiet) (c.requires.last ∙ c.in-Under.is) c.self.invariant
