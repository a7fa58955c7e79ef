use Rattle.session_io.proofs.Ordering.{in_order_none}
use Rattle.session_io.proofs.Sessions.{settled_new, ends_new, served_none}
use Rattle.session_io.proofs.serving.watch_session.Goals as goal

pub returns-in_err-session-clause-served : goal.returns-in_err-session-clause-served
returns-in_err-session-clause-served g c =
    served_none g.M.Meter.steps c.args.password.now _ c.from_residual.result
    c.from_residual.ensures.1

pub serve-end-requires-clause-settled : goal.serve-end-requires-clause-settled
serve-end-requires-clause-settled g c = settled_new c.args.password.now c.in_ok-session.session
    c.in_ok-session.ensures

pub serve-end-requires-clause-ends : goal.serve-end-requires-clause-ends
serve-end-requires-clause-ends g c = ends_new c.args.password.now c.in_ok-session.session
    c.in_ok-session.ensures

pub returns-in_err-session-clause-order : goal.returns-in_err-session-clause-order
returns-in_err-session-clause-order g c = in_order_none c.args.password.now
    (g.V.SessionWatch.passed c.args.watch.now) (g.R.Reader.remaining c.args.reader.now)
