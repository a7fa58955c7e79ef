use Rattle.std.proofs.Common.{rules}
use Rattle.turn_lock.proofs.StepsKeep.{tells}
use Rattle.turn_lock.proofs.steps.write_note.Goals as goal

pub split_seat-requires : goal.split_seat-requires
split_seat-requires g c =
    let t = g.T.Turned in (
      search rules,
      search rules,
      tells t.origin t.stands t.legal c.args.top.now.key.value _ _
          c.requires.ready.stage_is,
    )
