use Rattle.action_schedule.proofs.Falling.{due_means}
use Rattle.action_schedule.proofs.schedule.ActionSchedule.due.Goals as goal

pub returns-clause-meaning : goal.returns-clause-meaning
returns-clause-meaning c = due_means c.args.self.now c.args.previous c.args.now c.falls_due.result
    c.falls_due.ensures
