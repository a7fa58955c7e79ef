use Rattle.session_core.proofs.Tasks.{finishes}
use Rattle.session_core.proofs.session.Session.finish.Goals as goal

pub returns : goal.returns
returns c = finishes c.args.self.now.password c.args.self.now.deframer c.args.self.now.is_finished
    c.args.self.now.state c.args.self.now.task
