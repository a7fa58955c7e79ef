use Rattle.std.proofs.Common.{◌∙◌}
use Rattle.relay_core.proofs.TargetLemmas.{write_by_class}
use Rattle.relay_core.proofs.access.write_target.Goals as goal

pub returns : goal.returns
returns c =
    rw c.class_rights-rights.ensures at c.target.ensures
    ∙ write_by_class c.args.level c.args.attr.now c.args.selected
