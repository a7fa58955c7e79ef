use Rattle.std.proofs.Common.{◌∙◌}
use Rattle.relay_core.proofs.TargetLemmas.{execution_by_class}
use Rattle.relay_core.proofs.access.method_target.Goals as goal

pub returns : goal.returns
returns c =
    rw c.may_execute_of_class-allowed.ensures at c.target.ensures
    ∙ execution_by_class c.args.level c.args.method.now
