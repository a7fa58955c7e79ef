use Rattle.session_core.proofs.Tasks.{fresh_by}
use Rattle.session_core.proofs.session.Session.new.Goals as goal

pub returns : goal.returns
returns c = fresh_by c.args.password.now c.in_ok-new.field-0 c.new-2.result c.new-3.result
    c.in_ok-new.ensures c.new-2.ensures c.new-3.ensures
