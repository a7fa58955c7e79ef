use Rattle.std.proofs.Common.{[]}
use Rattle.session_core.specs.Remaining.{still_sends}
use Rattle.session_io.specs.Sides.{outlets_of}
use Rattle.session_io.proofs.Ordering.{at_finished, orders_end}
use Rattle.session_io.proofs.Reaching.{ended_all, ended_so}
use Rattle.session_io.proofs.serving.end_input.Goals as goal

pub returns-clause-ok : goal.returns-clause-ok
returns-clause-ok g c =
    ended_all g.M.Meter.steps g.F.Form.written_as c.args.session.now c.finish.new.self
    c.settle.new.session
    (outlets_of g.W.Writer.contents g.W.Writer.failures c.args.writer.now c.args.meter.now)
    (outlets_of g.W.Writer.contents g.W.Writer.failures c.settle.new.writer c.settle.new.meter)
    c.in_ok-end.field-0 c.finish.ensures c.in_ok-end.ensures.ok

pub returns-clause-end : goal.returns-clause-end
returns-clause-end g c =
    ended_so g.M.Meter.steps g.F.Form.written_as c.args.session.now c.finish.new.self
    c.settle.new.session
    (outlets_of g.W.Writer.contents g.W.Writer.failures c.args.writer.now c.args.meter.now)
    (outlets_of g.W.Writer.contents g.W.Writer.failures c.settle.new.writer c.settle.new.meter)
    c.in-Some.end c.finish.ensures (rw c.in-Some.is at c.in_ok-end.ensures.ok)

pub returns-clause-order : goal.returns-clause-order
returns-clause-order g c = λ password texts_of happened at.
    orders_end (λ more. texts_of []) (still_sends c.settle.new.session) happened
    (g.V.SessionWatch.passed c.args.watch.now) (g.V.SessionWatch.passed c.settle.new.watch)
    c.settle.result
    (c.settle.ensures.order password (λ more. texts_of []) happened
    (at_finished happened c.args.session.now c.finish.new.self c.finish.ensures at))

pub returns-in_err-end-clause-order : goal.returns-in_err-end-clause-order
returns-in_err-end-clause-order g c = λ password texts_of happened at.
    orders_end (λ more. texts_of []) (still_sends c.settle.new.session) happened
    (g.V.SessionWatch.passed c.args.watch.now) (g.V.SessionWatch.passed c.settle.new.watch)
    c.settle.result
    (c.settle.ensures.order password (λ more. texts_of []) happened
    (at_finished happened c.args.session.now c.finish.new.self c.finish.ensures at))
