use Rattle.action_schedule.proofs.Times.{same_time_is}
use Rattle.action_schedule.proofs.fitting.is_same_time.Goals as goal

pub returns : goal.returns
returns c = same_time_is c.same_time.result c.args.one.now c.args.other.now c.same_time.ensures
