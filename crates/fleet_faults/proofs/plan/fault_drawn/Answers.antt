use Rattle.std.proofs.Common.{rules}
use Rattle.fleet_faults.proofs.Drawing.{never_above}
use Rattle.fleet_faults.proofs.plan.fault_drawn.Goals as goal

pub returns-else-draw-refuses-clause-certain : goal.returns-else-draw-refuses-clause-certain
returns-else-draw-refuses-clause-certain c = λ fault all.
    never_above c.args.shares c.args.draw fault _ c.requires (search rules) all
