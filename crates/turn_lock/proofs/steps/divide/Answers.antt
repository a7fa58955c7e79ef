use Rattle.std.proofs.Common.{rules}
use Rattle.turn_lock.proofs.StepsKeep.{splits}
use Rattle.turn_lock.proofs.steps.divide.Goals as goal

pub split_seat-child-requires : goal.split_seat-child-requires
split_seat-child-requires g c =
    let t = g.T.Turned in (
      search rules,
      search rules,
      splits t.origin t.stands t.legal c.args.top.now.key.value _ _
          c.requires.ready.port c.requires.ready.stage_is,
    )
