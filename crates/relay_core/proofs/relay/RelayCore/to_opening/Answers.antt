use Rattle.std.proofs.Common.{sym, subst}
use Rattle.relay_core.specs.declared.opening.Opening.{Opening}
use Rattle.relay_core.specs.Agreeing.{Agree}
use Rattle.relay_core.specs.Opening.{world_of_opening}
use Rattle.relay_core.proofs.OpeningLemmas.{opening_agrees}
use Rattle.relay_core.proofs.relay.RelayCore.to_opening.Goals as goal

pub returns-clause-agrees : goal.returns-clause-agrees
returns-clause-agrees c = λ w stands.
    let written = c.in_ok-opening.ensures in
    subst (λ (o : Opening). Agree (world_of_opening o) w) (sym written.opening)
    (opening_agrees c.args.self.now w written.import written.export stands)
