use Rattle.std.proofs.Common.{rules}
use Rattle.turn_lock.proofs.StepsKeep.{settles}
use Rattle.turn_lock.proofs.steps.settle.Goals as goal

pub load-requires : goal.load-requires
load-requires g c =
    let t = g.T.Turned in
    (search rules, search rules, settles t.origin t.stands t.legal c.args.top.now.key.value _ _ _)
