use Rattle.session_core.proofs.Tasks.{idles}
use Rattle.session_core.proofs.session.Session.is_idle.Goals as goal

pub returns-in-Part-clause-quiet : goal.returns-in-Part-clause-quiet
returns-in-Part-clause-quiet c = λ e. idles c.args.self.now c.front.result c.in-Listen.is
    c.if-not-self.true c.in-Part.is c.front.ensures.means
