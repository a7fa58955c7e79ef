use Rattle.session_core.specs.Remaining.{still_sends}
use Rattle.session_io.specs.declared.fault.ServeFault.TheVariants as fault
use Rattle.session_io.specs.Sides.{outlets_of}
use Rattle.session_io.proofs.Ordering.{nothing_passed, comes_new, at_fed, orders_stop}
use Rattle.std.proofs.Common.{◌≡◌, refl, []}
use Rattle.session_io.proofs.Reaching.{reached_none, settled_by_feeding, steps_none, starved_by}
use Rattle.session_io.proofs.serving.take_in.Goals as goal

pub returns-in_err-feed-clause-err : goal.returns-in_err-feed-clause-err
returns-in_err-feed-clause-err g c =
    let s = c.args.session.now in
    let now = outlets_of g.W.Writer.contents g.W.Writer.failures c.args.writer.now c.args.meter.now
    in
    starved_by [] c.args.bytes.now s s now c.from_residual.result
    (reached_none s now) (steps_none s) c.from_residual.ensures.1

pub returns-then-is_idle-clause-ok : goal.returns-then-is_idle-clause-ok
returns-then-is_idle-clause-ok g c =
    settled_by_feeding g.M.Meter.steps _ c.args.session.now c.feed.new.self c.args.bytes.now
    (outlets_of g.W.Writer.contents g.W.Writer.failures c.args.writer.now c.args.meter.now)
    c.in_ok-feed.ensures.ok (c.if-is_idle.ensures.quiet refl)

pub returns-in_err-feed-clause-order : goal.returns-in_err-feed-clause-order
returns-in_err-feed-clause-order g c = λ password texts_of happened at.
    orders_stop (λ f. f ≡ fault.Memory) texts_of (still_sends c.feed.new.self) happened
    (g.V.SessionWatch.passed c.args.watch.now) (g.V.SessionWatch.passed c.args.watch.now)
    c.from_residual.result c.from_residual.ensures.1
    (record {
      new = [];
      passed = nothing_passed (g.V.SessionWatch.passed c.args.watch.now);
      unread = refl;
      ordered = at.ordered;
    })

pub returns-then-is_idle-clause-order : goal.returns-then-is_idle-clause-order
returns-then-is_idle-clause-order g c = λ password texts_of happened at.
    comes_new happened (g.V.SessionWatch.passed c.args.watch.now)
    (at_fed happened c.args.session.now c.feed.new.self c.args.bytes.now c.in_ok-feed.ensures.ok
    at)

pub returns-clause-order : goal.returns-clause-order
returns-clause-order g c = λ password texts_of happened at.
    c.settle.ensures.order password texts_of happened
    (at_fed happened c.args.session.now c.feed.new.self c.args.bytes.now c.in_ok-feed.ensures.ok
    at)
