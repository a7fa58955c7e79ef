use Rattle.std.proofs.Common.{rules}
use Rattle.std.proofs.lemmas.Grind.{common_steps}
use Rattle.shared_meter.proofs.CallLemmas.{has_none}
use Rattle.shared_meter.proofs.kept.Kept.with.Goals as goal

pub invariant_of-result : goal.invariant_of-result
invariant_of-result c = has_none c.args.recorder _ _ (Prim.search (rules, common_steps))
    c.requires.pending
