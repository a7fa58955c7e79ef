use Rattle.std.proofs.Common.{◌≡◌, refl, sym, [], ◌∙◌}
use Rattle.session_io.proofs.serving.settle.Goals as goal
use Rattle.session_core.specs.Remaining.{still_sends}
use Rattle.session_io.specs.Sides.{output_of, outlets_of}
use Rattle.session_io.specs.Settling.{fault_of}
use Rattle.session_io.specs.declared.fault.ServeFault.TheVariants as fault
use Rattle.session_io.proofs.Ordering.{comes_new, comes_sent, comes_asked, comes_still, stops_here}
use Rattle.session_io.proofs.Ordering.{stops_asked, stops_refused, stops_unsent, orders_stop}
use Rattle.session_io.proofs.Reaching.{reached_none, reached_sent, reached_asked, reached_answered}
use Rattle.session_io.proofs.Reaching.{starved_by, refused_by, unanswered, unsent_by, settled_over}

pub due-init : goal.due-init
due-init g c = record {
  reached = reached_none c.args.session.now (outlets_of g.W.Writer.contents g.W.Writer.failures
      c.args.writer.now c.args.meter.now);
  silent = c.requires.not_asking;
  finished = refl;
  writable = c.requires.writable;
  even = refl;
  order = λ password texts_of happened at. comes_new happened
      (g.V.SessionWatch.passed c.args.watch.now)
      at;
}

-- ---- a short request

pub returns-in_err-reply-in-Some-clause-err : goal.returns-in_err-reply-in-Some-clause-err
returns-in_err-reply-in-Some-clause-err g c =
    let asked = rw (sym c.event.ensures) at c.in-Some.ensures.asks in
    refused_by {before = outlets_of g.W.Writer.contents g.W.Writer.failures c.args.writer.now
    c.args.meter.now} [] [] c.due.session c.next_short.new.self
    (outlets_of g.W.Writer.contents g.W.Writer.failures c.due.writer c.due.meter) c.call.new.meter
    c.event.result c.in_err-reply-in-Some.field-0.0
    c.from_residual.result c.due.invariant.reached asked.steps asked.awaits
    c.in_err-reply-in-Some.ensures.step c.from_residual.ensures.1

pub returns-in-Err-clause-err : goal.returns-in-Err-clause-err
returns-in-Err-clause-err g c =
    let asked = rw (sym c.event.ensures) at c.in-Some.ensures.asks in
    unanswered {before = outlets_of g.W.Writer.contents g.W.Writer.failures c.args.writer.now
    c.args.meter.now} [] [] c.due.session c.next_short.new.self
    (outlets_of g.W.Writer.contents g.W.Writer.failures c.due.writer c.due.meter) c.call.new.meter
    c.event.result c.in_ok-reply-in-Some.reply
    c.due.invariant.reached asked.steps c.in_ok-reply-in-Some.ensures.step

pub due-preserved-in-Ok : goal.due-preserved-in-Ok
due-preserved-in-Ok g c =
    let asked = rw (sym c.event.ensures) at c.in-Some.ensures.asks in
    let answered = c.in-Ok.ensures.ok in
    record {
      reached = reached_answered [] c.due.session c.next_short.new.self
          c.answer_short-answered.new.self
          (outlets_of g.W.Writer.contents g.W.Writer.failures c.due.writer c.due.meter)
          c.call.new.meter
          (output_of g.W.Writer.contents g.W.Writer.failures c.write.new.writer)
          c.event.result c.in_ok-reply-in-Some.reply
          c.in-Ok.frame
          c.due.invariant.reached asked.steps c.in_ok-reply-in-Some.ensures.step answered
          (rw c.as_slice.ensures at c.in_ok-write-in-Ok.ensures.bytes);
      silent = answered.silent;
      finished = answered.sends.finished ∙ answered.takes.finished ∙ asked.steps.finished
          ∙ c.due.invariant.finished;
      writable = c.in_ok-write-in-Ok.ensures.ready;
      even = c.in_ok-write-in-Ok.ensures.failures_unchanged ∙ c.due.invariant.even;
      order = λ password texts_of happened at.
          comes_sent happened (g.V.SessionWatch.passed c.args.watch.now)
          (g.V.SessionWatch.passed c.call.new.self)
          (g.V.SessionWatch.passed c.write.new.watch)
          answered.between c.answer_short-answered.new.self c.in-Ok.frame
          (comes_asked happened (g.V.SessionWatch.passed c.args.watch.now)
          (g.V.SessionWatch.passed c.due.watch)
          (g.V.SessionWatch.passed c.call.new.self)
          c.due.session c.next_short.new.self answered.between
          c.event.result c.in_ok-reply-in-Some.reply
          (c.due.invariant.order password texts_of happened at) asked.steps asked.awaits
          c.in_ok-reply-in-Some.ensures.passes answered.takes)
          answered.sends (rw c.as_slice.ensures at c.in_ok-write-in-Ok.ensures.passes);
    }

pub returns-in_err-write-in-Ok-clause-err : goal.returns-in_err-write-in-Ok-clause-err
returns-in_err-write-in-Ok-clause-err g c =
    let asked = rw (sym c.event.ensures) at c.in-Some.ensures.asks in
    let answered = c.in-Ok.ensures.ok in
    unsent_by {before = outlets_of g.W.Writer.contents g.W.Writer.failures c.args.writer.now
    c.args.meter.now} [] [] answered.between
    (outlets_of g.W.Writer.contents g.W.Writer.failures c.due.writer c.call.new.meter)
    (output_of g.W.Writer.contents g.W.Writer.failures c.write.new.writer)
    c.in_err-write-in-Ok.field-0.0 c.from_residual-in_err-write-in-Ok.result
    (reached_asked {before = outlets_of g.W.Writer.contents g.W.Writer.failures c.args.writer.now
    c.args.meter.now} [] c.due.session c.next_short.new.self answered.between
    (outlets_of g.W.Writer.contents g.W.Writer.failures c.due.writer c.due.meter) c.call.new.meter
    c.event.result c.in_ok-reply-in-Some.reply
    c.due.invariant.reached asked.steps c.in_ok-reply-in-Some.ensures.step answered.takes)
    c.due.invariant.even c.in_err-write-in-Ok.ensures.err
    c.from_residual-in_err-write-in-Ok.ensures.1

-- ---- all other tasks

pub returns-in_err-event-in-None-clause-err :
    goal.returns-in_err-event-in-None-clause-err
returns-in_err-event-in-None-clause-err g c =
    let same : c.next_short.new.self ≡ c.due.session = c.in-None.ensures.none in
    starved_by {before = outlets_of g.W.Writer.contents g.W.Writer.failures c.args.writer.now
    c.args.meter.now} [] [] c.due.session c.next.new.self
    (outlets_of g.W.Writer.contents g.W.Writer.failures c.due.writer c.due.meter)
    c.from_residual-in_err-event-in-None.result c.due.invariant.reached
    (rw same at c.in_err-event-in-None.ensures.steps)
    c.from_residual-in_err-event-in-None.ensures.1

pub returns-in_err-reply-in-Ask-clause-err : goal.returns-in_err-reply-in-Ask-clause-err
returns-in_err-reply-in-Ask-clause-err g c =
    let same : c.next_short.new.self ≡ c.due.session = c.in-None.ensures.none in
    let stepped = rw (c.in-Ask.is, same) at c.in_ok-event-in-None.ensures.steps in
    let left = rw c.in-Ask.is at c.in_ok-event-in-None.ensures.leaves in
    refused_by {before = outlets_of g.W.Writer.contents g.W.Writer.failures c.args.writer.now
    c.args.meter.now} [] [] c.due.session c.next.new.self
    (outlets_of g.W.Writer.contents g.W.Writer.failures c.due.writer c.due.meter)
    c.call-in-Ask.new.meter c.in-Ask.event c.in_err-reply-in-Ask.field-0.0
    c.from_residual-in_err-reply-in-Ask.result c.due.invariant.reached stepped left.0
    c.in_err-reply-in-Ask.ensures.step c.from_residual-in_err-reply-in-Ask.ensures.1

pub due-preserved-in-Ok-answer : goal.due-preserved-in-Ok-answer
due-preserved-in-Ok-answer g c =
    let same : c.next_short.new.self ≡ c.due.session = c.in-None.ensures.none in
    let stepped = rw (c.in-Ask.is, same) at c.in_ok-event-in-None.ensures.steps in
    let left = (rw c.in-Ask.is at c.in_ok-event-in-None.ensures.leaves).0 in
    let taken = c.in-Ok-answer.ensures.ok in
    record {
      reached = reached_asked [] c.due.session c.next.new.self c.answer.new.self
          (outlets_of g.W.Writer.contents g.W.Writer.failures c.due.writer c.due.meter)
          c.call-in-Ask.new.meter
          c.in-Ask.event c.in_ok-reply-in-Ask.reply c.due.invariant.reached stepped
          c.in_ok-reply-in-Ask.ensures.step taken;
      silent = taken.silent;
      finished = taken.finished ∙ stepped.finished ∙ c.due.invariant.finished;
      writable = c.due.invariant.writable;
      even = c.due.invariant.even;
      order = λ password texts_of happened at.
          comes_asked happened (g.V.SessionWatch.passed c.args.watch.now)
          (g.V.SessionWatch.passed c.due.watch)
          (g.V.SessionWatch.passed c.call-in-Ask.new.self)
          c.due.session c.next.new.self c.answer.new.self c.in-Ask.event c.in_ok-reply-in-Ask.reply
          (c.due.invariant.order password texts_of happened at) stepped left
          c.in_ok-reply-in-Ask.ensures.passes taken;
    }

pub returns-in-Err-answer-clause-err : goal.returns-in-Err-answer-clause-err
returns-in-Err-answer-clause-err g c =
    let same : c.next_short.new.self ≡ c.due.session = c.in-None.ensures.none in
    let stepped = rw (c.in-Ask.is, same) at c.in_ok-event-in-None.ensures.steps in
    unanswered {before = outlets_of g.W.Writer.contents g.W.Writer.failures c.args.writer.now
    c.args.meter.now} [] [] c.due.session c.next.new.self
    (outlets_of g.W.Writer.contents g.W.Writer.failures c.due.writer c.due.meter)
    c.call-in-Ask.new.meter
    c.in-Ask.event c.in_ok-reply-in-Ask.reply c.due.invariant.reached stepped
    c.in_ok-reply-in-Ask.ensures.step

pub due-preserved : goal.due-preserved
due-preserved g c =
    let same : c.next_short.new.self ≡ c.due.session = c.in-None.ensures.none in
    let stepped = rw (c.in-Send.is, same) at c.in_ok-event-in-None.ensures.steps in
    let left = rw c.in-Send.is at c.in_ok-event-in-None.ensures.leaves in
    record {
      reached = reached_sent [] c.due.session c.next.new.self
          (outlets_of g.W.Writer.contents g.W.Writer.failures c.due.writer c.due.meter)
          (output_of g.W.Writer.contents g.W.Writer.failures c.write-in-Send.new.writer)
          c.in-Send.frame c.due.invariant.reached stepped
          (rw c.as_slice-in-Send.ensures at c.in_ok-write-in-Send.ensures.bytes);
      silent = left.0;
      finished = stepped.finished ∙ c.due.invariant.finished;
      writable = c.in_ok-write-in-Send.ensures.ready;
      even = c.in_ok-write-in-Send.ensures.failures_unchanged ∙ c.due.invariant.even;
      order = λ password texts_of happened at.
          comes_sent happened (g.V.SessionWatch.passed c.args.watch.now)
          (g.V.SessionWatch.passed c.due.watch)
          (g.V.SessionWatch.passed c.write-in-Send.new.watch)
          c.due.session c.next.new.self c.in-Send.frame
          (c.due.invariant.order password texts_of happened at) stepped
          (rw c.as_slice-in-Send.ensures at c.in_ok-write-in-Send.ensures.passes);
    }

pub returns-in_err-write-in-Send-clause-err : goal.returns-in_err-write-in-Send-clause-err
returns-in_err-write-in-Send-clause-err g c =
    unsent_by {before = outlets_of g.W.Writer.contents g.W.Writer.failures c.args.writer.now
    c.args.meter.now} [] [] c.due.session
    (outlets_of g.W.Writer.contents g.W.Writer.failures c.due.writer c.due.meter)
    (output_of g.W.Writer.contents g.W.Writer.failures c.write-in-Send.new.writer)
    c.in_err-write-in-Send.field-0.0 c.from_residual-in_err-write-in-Send.result
    c.due.invariant.reached c.due.invariant.even c.in_err-write-in-Send.ensures.err
    c.from_residual-in_err-write-in-Send.ensures.1

pub returns-in-End-clause-ok : goal.returns-in-End-clause-ok
returns-in-End-clause-ok g c =
    let same : c.next_short.new.self ≡ c.due.session = c.in-None.ensures.none in
    settled_over g.M.Meter.steps g.F.Form.written_as c.args.session.now c.due.session
    c.next.new.self
    (outlets_of g.W.Writer.contents g.W.Writer.failures c.args.writer.now c.args.meter.now)
    (outlets_of g.W.Writer.contents g.W.Writer.failures c.due.writer c.due.meter) c.in-End.end
    c.due.invariant.reached c.due.invariant.finished
    (rw (c.in-End.is, same) at c.in_ok-event-in-None.ensures.steps)
    (rw c.in-End.is at c.in_ok-event-in-None.ensures.leaves)

-- ---- the order

pub returns-in_err-reply-in-Some-clause-order : goal.returns-in_err-reply-in-Some-clause-order
returns-in_err-reply-in-Some-clause-order g c = λ password texts_of happened at.
    let asked = rw (sym c.event.ensures) at c.in-Some.ensures.asks in
    orders_stop (λ f. f ≡ fault_of c.in_err-reply-in-Some.field-0.0) texts_of
    (still_sends c.next_short.new.self) happened (g.V.SessionWatch.passed c.args.watch.now)
    (g.V.SessionWatch.passed c.call.new.self) c.from_residual.result c.from_residual.ensures.1
    (stops_refused happened (g.V.SessionWatch.passed c.args.watch.now)
    (g.V.SessionWatch.passed c.due.watch)
    (g.V.SessionWatch.passed c.call.new.self)
    c.due.session c.next_short.new.self c.event.result
    (c.due.invariant.order password texts_of happened at) asked.steps asked.awaits
    c.in_err-reply-in-Some.ensures.passes)

pub returns-in-Err-clause-order : goal.returns-in-Err-clause-order
returns-in-Err-clause-order g c = λ password texts_of happened at.
    let asked = rw (sym c.event.ensures) at c.in-Some.ensures.asks in
    stops_asked happened (g.V.SessionWatch.passed c.args.watch.now)
    (g.V.SessionWatch.passed c.due.watch)
    (g.V.SessionWatch.passed c.call.new.self)
    c.due.session c.next_short.new.self c.event.result
    c.in_ok-reply-in-Some.reply
    (c.due.invariant.order password texts_of happened at) asked.steps asked.awaits
    c.in_ok-reply-in-Some.ensures.passes

pub returns-in_err-write-in-Ok-clause-order : goal.returns-in_err-write-in-Ok-clause-order
returns-in_err-write-in-Ok-clause-order g c = λ password texts_of happened at.
    let asked = rw (sym c.event.ensures) at c.in-Some.ensures.asks in
    let answered = c.in-Ok.ensures.ok in
    orders_stop (λ f. f ≡ c.in_err-write-in-Ok.field-0.0) texts_of
    (still_sends c.answer_short-answered.new.self) happened (g.V.SessionWatch.passed
    c.args.watch.now)
    (g.V.SessionWatch.passed c.write.new.watch) c.from_residual-in_err-write-in-Ok.result
    c.from_residual-in_err-write-in-Ok.ensures.1
    (stops_unsent happened (g.V.SessionWatch.passed c.args.watch.now)
    (g.V.SessionWatch.passed c.call.new.self)
    (g.V.SessionWatch.passed c.write.new.watch)
    c.in_err-write-in-Ok.field-0.0
    (comes_asked happened (g.V.SessionWatch.passed c.args.watch.now)
    (g.V.SessionWatch.passed c.due.watch)
    (g.V.SessionWatch.passed c.call.new.self)
    c.due.session c.next_short.new.self answered.between
    c.event.result c.in_ok-reply-in-Some.reply
    (c.due.invariant.order password texts_of happened at) asked.steps asked.awaits
    c.in_ok-reply-in-Some.ensures.passes answered.takes)
    c.in_err-write-in-Ok.ensures.fails_to_pass)

pub returns-in_err-event-in-None-clause-order :
    goal.returns-in_err-event-in-None-clause-order
returns-in_err-event-in-None-clause-order g c = λ password texts_of happened at.
    orders_stop (λ f. f ≡ fault.Memory) texts_of (still_sends c.next.new.self) happened
    (g.V.SessionWatch.passed c.args.watch.now) (g.V.SessionWatch.passed c.due.watch)
    c.from_residual-in_err-event-in-None.result
    c.from_residual-in_err-event-in-None.ensures.1
    (stops_here happened (g.V.SessionWatch.passed c.args.watch.now)
    (g.V.SessionWatch.passed c.due.watch)
    (c.due.invariant.order password texts_of happened at))

pub returns-in_err-reply-in-Ask-clause-order : goal.returns-in_err-reply-in-Ask-clause-order
returns-in_err-reply-in-Ask-clause-order g c = λ password texts_of happened at.
    let same : c.next_short.new.self ≡ c.due.session = c.in-None.ensures.none in
    let stepped = rw (c.in-Ask.is, same) at c.in_ok-event-in-None.ensures.steps in
    let left = rw c.in-Ask.is at c.in_ok-event-in-None.ensures.leaves in
    orders_stop (λ f. f ≡ fault_of c.in_err-reply-in-Ask.field-0.0) texts_of
    (still_sends c.next.new.self) happened (g.V.SessionWatch.passed c.args.watch.now)
    (g.V.SessionWatch.passed c.call-in-Ask.new.self) c.from_residual-in_err-reply-in-Ask.result
    c.from_residual-in_err-reply-in-Ask.ensures.1
    (stops_refused happened (g.V.SessionWatch.passed c.args.watch.now)
    (g.V.SessionWatch.passed c.due.watch)
    (g.V.SessionWatch.passed c.call-in-Ask.new.self)
    c.due.session c.next.new.self c.in-Ask.event
    (c.due.invariant.order password texts_of happened at) stepped left.0
    c.in_err-reply-in-Ask.ensures.passes)

pub returns-in-Err-answer-clause-order : goal.returns-in-Err-answer-clause-order
returns-in-Err-answer-clause-order g c = λ password texts_of happened at.
    let same : c.next_short.new.self ≡ c.due.session = c.in-None.ensures.none in
    let stepped = rw (c.in-Ask.is, same) at c.in_ok-event-in-None.ensures.steps in
    let left = rw c.in-Ask.is at c.in_ok-event-in-None.ensures.leaves in
    stops_asked happened (g.V.SessionWatch.passed c.args.watch.now)
    (g.V.SessionWatch.passed c.due.watch)
    (g.V.SessionWatch.passed c.call-in-Ask.new.self)
    c.due.session c.next.new.self c.in-Ask.event c.in_ok-reply-in-Ask.reply
    (c.due.invariant.order password texts_of happened at) stepped left.0
    c.in_ok-reply-in-Ask.ensures.passes

pub returns-in_err-write-in-Send-clause-order : goal.returns-in_err-write-in-Send-clause-order
returns-in_err-write-in-Send-clause-order g c = λ password texts_of happened at.
    orders_stop (λ f. f ≡ c.in_err-write-in-Send.field-0.0) texts_of (still_sends c.next.new.self)
    happened (g.V.SessionWatch.passed c.args.watch.now)
    (g.V.SessionWatch.passed c.write-in-Send.new.watch)
    c.from_residual-in_err-write-in-Send.result c.from_residual-in_err-write-in-Send.ensures.1
    (stops_unsent happened (g.V.SessionWatch.passed c.args.watch.now)
    (g.V.SessionWatch.passed c.due.watch)
    (g.V.SessionWatch.passed c.write-in-Send.new.watch)
    c.in_err-write-in-Send.field-0.0
    (c.due.invariant.order password texts_of happened at)
    c.in_err-write-in-Send.ensures.fails_to_pass)

pub returns-in-Wait-clause-order : goal.returns-in-Wait-clause-order
returns-in-Wait-clause-order g c = λ password texts_of happened at.
    let same : c.next_short.new.self ≡ c.due.session = c.in-None.ensures.none in
    let stepped = rw (c.in-Wait.is, same) at c.in_ok-event-in-None.ensures.steps in
    comes_still happened (g.V.SessionWatch.passed c.args.watch.now)
    (g.V.SessionWatch.passed c.due.watch)
    stepped.sends (c.due.invariant.order password texts_of happened at)

pub returns-in-End-clause-order : goal.returns-in-End-clause-order
returns-in-End-clause-order g c = λ password texts_of happened at.
    let same : c.next_short.new.self ≡ c.due.session = c.in-None.ensures.none in
    let stepped = rw (c.in-End.is, same) at c.in_ok-event-in-None.ensures.steps in
    comes_still happened (g.V.SessionWatch.passed c.args.watch.now)
    (g.V.SessionWatch.passed c.due.watch)
    stepped.sends (c.due.invariant.order password texts_of happened at)
