use Rattle.std.proofs.Common.{◌≡◌, ◌<◌, ℕ, [], take, ap, refl, sym, add-zero, subst, inl, inr, ◌∙◌, arith}
use Rattle.std.proofs.KnownBytes.{Consumes-nil, Consumes-kept}
use Rattle.session_io.specs.Serving.{as_bytes}
use Rattle.session_io.specs.Sides.{input_of}
use Rattle.session_io.proofs.Ordering.{texts_after, waits_new, waits_next, has_read, at_end, stops_here, in_order_unread, in_order_stop, in_order_waiting}
use Rattle.session_io.proofs.Sessions.{sides, stands_new, stands_next, wrong_ends, piece_of, served_stop_by, served_end, served_over, served_unread}
use Rattle.session_io.proofs.serving.serve.Goals as goal

pub reads-init : goal.reads-init
reads-init g c = record {
  stands = stands_new g.M.Meter.steps as_bytes c.args.session.now
      (sides g.R.Reader.remaining g.R.Reader.reads g.R.Reader.failures g.W.Writer.contents
      g.W.Writer.failures c.args.reader.now c.args.writer.now c.args.meter.now)
      c.requires.settled c.requires.ends c.requires.not_asking;
  readable = c.requires.readable;
  counted = sym (add-zero (g.R.Reader.reads c.args.reader.now));
  writable = c.requires.writable;
  read_even = refl;
  write_even = refl;
  order = λ password owes. waits_new password c.args.session.now
      (g.V.SessionWatch.passed c.args.watch.now)
      (g.R.Reader.remaining c.args.reader.now) owes;
  room = refl;
}

pub returns-in-Err-clause-served : goal.returns-in-Err-clause-served
returns-in-Err-clause-served g c = λ password owes.
    let left = g.R.Reader.remaining c.reads.reader in
    served_unread g.M.Meter.steps password c.reads.counter c.args.session.now c.reads.session
    (sides g.R.Reader.remaining g.R.Reader.reads g.R.Reader.failures g.W.Writer.contents
    g.W.Writer.failures c.args.reader.now c.args.writer.now c.args.meter.now)
    (sides g.R.Reader.remaining g.R.Reader.reads g.R.Reader.failures g.W.Writer.contents
    g.W.Writer.failures c.reads.reader c.reads.writer c.reads.meter)
    (input_of g.R.Reader.remaining g.R.Reader.reads g.R.Reader.failures c.read.new.reader)
    owes c.reads.invariant.stands
    (Consumes-kept left left (g.R.Reader.remaining c.read.new.reader) [] (Consumes-nil left)
    c.in-Err.ensures.bytes)
    (omega (arith, c.reads-test.true))
    (c.in-Err.ensures.uncounted ∙ c.reads.invariant.counted)
    (inl (subst (λ (n : ℕ). n < g.R.Reader.failures c.read.new.reader) c.reads.invariant.read_even
    c.in-Err.ensures.cause))

pub returns-then-count-eq0-clause-served : goal.returns-then-count-eq0-clause-served
returns-then-count-eq0-clause-served g c = λ password owes.
    served_end g.M.Meter.steps password c.reads.counter
    c.args.session.now c.reads.session
    (sides g.R.Reader.remaining g.R.Reader.reads g.R.Reader.failures g.W.Writer.contents
    g.W.Writer.failures c.args.reader.now c.args.writer.now c.args.meter.now)
    (sides g.R.Reader.remaining g.R.Reader.reads g.R.Reader.failures g.W.Writer.contents
    g.W.Writer.failures c.reads.reader c.reads.writer c.reads.meter)
    (sides g.R.Reader.remaining g.R.Reader.reads g.R.Reader.failures g.W.Writer.contents
    g.W.Writer.failures c.read.new.reader c.end_input.new.writer c.end_input.new.meter)
    c.end_input.result owes c.reads.invariant.stands
    (rw c.if-count-eq0.true at c.in-Ok.ensures.bytes.0)
    (c.in-Ok.ensures.bytes.1 c.if-count-eq0.true
    (omega (arith, c.read.auto.buffer, c.reads.invariant.room)))
    (omega (arith, c.reads-test.true))
    (omega (arith, c.in-Ok.ensures.counted, c.reads.invariant.counted))
    c.reads.invariant.write_even c.end_input.ensures.ok c.end_input.ensures.end
    c.end_input.ensures.err

pub returns-in_err-end-clause-served : goal.returns-in_err-end-clause-served
returns-in_err-end-clause-served g c = λ password owes.
    served_stop_by g.M.Meter.steps password
    (take c.in-Ok.count c.read.new.buffer) c.reads.counter c.args.session.now c.reads.session
    (sides g.R.Reader.remaining g.R.Reader.reads g.R.Reader.failures g.W.Writer.contents
    g.W.Writer.failures c.args.reader.now c.args.writer.now c.args.meter.now)
    (sides g.R.Reader.remaining g.R.Reader.reads g.R.Reader.failures g.W.Writer.contents
    g.W.Writer.failures c.reads.reader c.reads.writer c.reads.meter)
    (sides g.R.Reader.remaining g.R.Reader.reads g.R.Reader.failures g.W.Writer.contents
    g.W.Writer.failures c.read.new.reader c.take_in.new.writer c.take_in.new.meter)
    c.in_err-end.field-0.0 c.from_residual.result
    owes c.reads.invariant.stands c.in-Ok.ensures.bytes.0
    (piece_of c.read.new.buffer c.in-Ok.count c.in-Ok.ensures.bound.0
    (c.read.auto.buffer ∙ c.reads.invariant.room))
    (omega (arith, c.reads-test.true))
    (omega (arith, c.in-Ok.ensures.counted, c.reads.invariant.counted))
    c.reads.invariant.write_even c.in_err-end.ensures.err c.from_residual.ensures.1

pub returns-in-Some-clause-served : goal.returns-in-Some-clause-served
returns-in-Some-clause-served g c = λ password owes.
    served_over g.M.Meter.steps password
    (take c.in-Ok.count c.read.new.buffer) c.reads.counter c.args.session.now c.reads.session
    c.take_in.new.session
    (sides g.R.Reader.remaining g.R.Reader.reads g.R.Reader.failures g.W.Writer.contents
    g.W.Writer.failures c.args.reader.now c.args.writer.now c.args.meter.now)
    (sides g.R.Reader.remaining g.R.Reader.reads g.R.Reader.failures g.W.Writer.contents
    g.W.Writer.failures c.reads.reader c.reads.writer c.reads.meter)
    (sides g.R.Reader.remaining g.R.Reader.reads g.R.Reader.failures g.W.Writer.contents
    g.W.Writer.failures c.read.new.reader c.take_in.new.writer c.take_in.new.meter)
    c.in-Some.end
    owes c.reads.invariant.stands c.in-Ok.ensures.bytes.0
    (piece_of c.read.new.buffer c.in-Ok.count c.in-Ok.ensures.bound.0
    (c.read.auto.buffer ∙ c.reads.invariant.room))
    (omega (arith, c.reads-test.true))
    (omega (arith, c.in-Ok.ensures.counted, c.reads.invariant.counted))
    (rw c.in-Some.ensures.header.0 at c.in_ok-end.ensures.ok)
    (wrong_ends c.in-Some.end (g.R.Reader.remaining c.read.new.reader) c.in-Some.ensures.header.1)

pub reads-preserved : goal.reads-preserved
reads-preserved g c = record {
  stands = stands_next g.M.Meter.steps as_bytes c.args.session.now c.reads.session
      c.take_in.new.session
      (sides g.R.Reader.remaining g.R.Reader.reads g.R.Reader.failures g.W.Writer.contents
      g.W.Writer.failures c.args.reader.now c.args.writer.now c.args.meter.now)
      (sides g.R.Reader.remaining g.R.Reader.reads g.R.Reader.failures g.W.Writer.contents
      g.W.Writer.failures c.reads.reader c.reads.writer c.reads.meter)
      (sides g.R.Reader.remaining g.R.Reader.reads g.R.Reader.failures g.W.Writer.contents
      g.W.Writer.failures c.read.new.reader c.take_in.new.writer c.take_in.new.meter)
      c.reads.counter (take c.in-Ok.count c.read.new.buffer) c.in_ok-end.end
      c.reads.invariant.stands c.in-Ok.ensures.bytes.0
      (piece_of c.read.new.buffer c.in-Ok.count c.in-Ok.ensures.bound.0
      (c.read.auto.buffer ∙ c.reads.invariant.room))
      c.in_ok-end.ensures.ok c.in-None.ensures.none;
  counted = omega (arith, c.in-Ok.ensures.counted, c.reads.invariant.counted);
  readable = c.in-Ok.ensures.ready;
  writable = c.in_ok-end.ensures.writable;
  read_even = c.in-Ok.ensures.failures_unchanged ∙ c.reads.invariant.read_even;
  write_even = c.in_ok-end.ensures.failures_unchanged ∙ c.reads.invariant.write_even;
  order = λ password owes.
      let r = (has_read password c.reads.session (take c.in-Ok.count c.read.new.buffer)
      (g.V.SessionWatch.passed c.args.watch.now) (g.V.SessionWatch.passed c.reads.watch)
      (g.V.SessionWatch.passed c.read.new.self)
      (g.R.Reader.remaining c.args.reader.now) (g.R.Reader.remaining c.reads.reader)
      (g.R.Reader.remaining c.read.new.reader)
      (c.reads.invariant.order password owes) c.reads.invariant.stands.settled
      c.in-Ok.ensures.bytes.0 c.in-Ok.ensures.passes) in
      waits_next password c.reads.session c.take_in.new.session
      (take c.in-Ok.count c.read.new.buffer)
      (g.V.SessionWatch.passed c.args.watch.now) (g.V.SessionWatch.passed c.read.new.self)
      (g.V.SessionWatch.passed c.take_in.new.watch)
      (g.R.Reader.remaining c.args.reader.now) (g.R.Reader.remaining c.read.new.reader) r
      (c.in_ok-end.ensures.order password (texts_after password r.happened) r.happened r.is_at);
  room = c.read.auto.buffer ∙ c.reads.invariant.room;
}

pub returns-clause-served : goal.returns-clause-served
returns-clause-served g c = λ password owes.
    served_unread g.M.Meter.steps password c.reads.counter c.args.session.now c.reads.session
    (sides g.R.Reader.remaining g.R.Reader.reads g.R.Reader.failures g.W.Writer.contents
    g.W.Writer.failures c.args.reader.now c.args.writer.now c.args.meter.now)
    (sides g.R.Reader.remaining g.R.Reader.reads g.R.Reader.failures g.W.Writer.contents
    g.W.Writer.failures c.reads.reader c.reads.writer c.reads.meter)
    (input_of g.R.Reader.remaining g.R.Reader.reads g.R.Reader.failures c.reads.reader)
    owes c.reads.invariant.stands (Consumes-nil (g.R.Reader.remaining c.reads.reader))
    (omega (arith, c.reads-test.false, c.reads.auto.counter-end)) c.reads.invariant.counted
    (inr (omega (arith, c.reads.invariant.counted, c.reads-test.false)))

-- ---- the order

pub returns-in-Err-clause-order : goal.returns-in-Err-clause-order
returns-in-Err-clause-order g c = λ password owes.
    in_order_unread password c.reads.session (g.V.SessionWatch.passed c.args.watch.now)
    (g.V.SessionWatch.passed c.reads.watch) (g.V.SessionWatch.passed c.read.new.self)
    (g.R.Reader.remaining c.args.reader.now) (g.R.Reader.remaining c.reads.reader)
    (g.R.Reader.remaining c.read.new.reader)
    (c.reads.invariant.order password owes) c.reads.invariant.stands.settled
    (Consumes-kept (g.R.Reader.remaining c.reads.reader) (g.R.Reader.remaining c.reads.reader)
    (g.R.Reader.remaining c.read.new.reader) []
    (Consumes-nil (g.R.Reader.remaining c.reads.reader)) c.in-Err.ensures.bytes)
    c.in-Err.ensures.passes

pub returns-then-count-eq0-clause-order : goal.returns-then-count-eq0-clause-order
returns-then-count-eq0-clause-order g c = λ password owes.
    let none : take c.in-Ok.count c.read.new.buffer ≡ [] = ap (λ (n : ℕ). take n c.read.new.buffer)
    c.if-count-eq0.true in
    let r = (has_read password c.reads.session (take c.in-Ok.count c.read.new.buffer)
    (g.V.SessionWatch.passed c.args.watch.now) (g.V.SessionWatch.passed c.reads.watch)
    (g.V.SessionWatch.passed c.read.new.self)
    (g.R.Reader.remaining c.args.reader.now) (g.R.Reader.remaining c.reads.reader)
    (g.R.Reader.remaining c.read.new.reader)
    (c.reads.invariant.order password owes) c.reads.invariant.stands.settled c.in-Ok.ensures.bytes.0
    c.in-Ok.ensures.passes) in
    in_order_stop password c.reads.session (take c.in-Ok.count c.read.new.buffer)
    (g.V.SessionWatch.passed c.args.watch.now) (g.V.SessionWatch.passed c.read.new.self)
    (g.V.SessionWatch.passed c.end_input.new.watch)
    (g.R.Reader.remaining c.args.reader.now) (g.R.Reader.remaining c.read.new.reader) r
    (c.end_input.ensures.order password (texts_after password r.happened) r.happened
    (at_end password c.reads.session (take c.in-Ok.count c.read.new.buffer)
    (g.V.SessionWatch.passed c.args.watch.now) (g.V.SessionWatch.passed c.read.new.self)
    (g.R.Reader.remaining c.args.reader.now) (g.R.Reader.remaining c.read.new.reader) none r))

pub returns-in_err-end-clause-order : goal.returns-in_err-end-clause-order
returns-in_err-end-clause-order g c = λ password owes.
    let r = (has_read password c.reads.session (take c.in-Ok.count c.read.new.buffer)
    (g.V.SessionWatch.passed c.args.watch.now) (g.V.SessionWatch.passed c.reads.watch)
    (g.V.SessionWatch.passed c.read.new.self)
    (g.R.Reader.remaining c.args.reader.now) (g.R.Reader.remaining c.reads.reader)
    (g.R.Reader.remaining c.read.new.reader)
    (c.reads.invariant.order password owes) c.reads.invariant.stands.settled c.in-Ok.ensures.bytes.0
    c.in-Ok.ensures.passes) in
    in_order_stop password c.reads.session (take c.in-Ok.count c.read.new.buffer)
    (g.V.SessionWatch.passed c.args.watch.now) (g.V.SessionWatch.passed c.read.new.self)
    (g.V.SessionWatch.passed c.take_in.new.watch)
    (g.R.Reader.remaining c.args.reader.now) (g.R.Reader.remaining c.read.new.reader) r
    (c.in_err-end.ensures.order password (texts_after password r.happened) r.happened r.is_at)

pub returns-in-Some-clause-order : goal.returns-in-Some-clause-order
returns-in-Some-clause-order g c = λ password owes.
    let r = (has_read password c.reads.session (take c.in-Ok.count c.read.new.buffer)
    (g.V.SessionWatch.passed c.args.watch.now) (g.V.SessionWatch.passed c.reads.watch)
    (g.V.SessionWatch.passed c.read.new.self)
    (g.R.Reader.remaining c.args.reader.now) (g.R.Reader.remaining c.reads.reader)
    (g.R.Reader.remaining c.read.new.reader)
    (c.reads.invariant.order password owes) c.reads.invariant.stands.settled c.in-Ok.ensures.bytes.0
    c.in-Ok.ensures.passes) in
    in_order_stop password c.reads.session (take c.in-Ok.count c.read.new.buffer)
    (g.V.SessionWatch.passed c.args.watch.now) (g.V.SessionWatch.passed c.read.new.self)
    (g.V.SessionWatch.passed c.take_in.new.watch)
    (g.R.Reader.remaining c.args.reader.now) (g.R.Reader.remaining c.read.new.reader) r
    (stops_here r.happened (g.V.SessionWatch.passed c.read.new.self)
    (g.V.SessionWatch.passed c.take_in.new.watch)
    (c.in_ok-end.ensures.order password (texts_after password r.happened) r.happened r.is_at))

pub returns-clause-order : goal.returns-clause-order
returns-clause-order g c = λ password owes.
    in_order_waiting password c.reads.session (g.V.SessionWatch.passed c.args.watch.now)
    (g.V.SessionWatch.passed c.reads.watch)
    (g.R.Reader.remaining c.args.reader.now) (g.R.Reader.remaining c.reads.reader)
    (c.reads.invariant.order password owes)
