use Rattle.std.proofs.Common.{true, false, arith}
use Rattle.head_end.proofs.Steps.{all_none, all_twice, all_text, all_cut, all_nothing}
use Rattle.head_end.proofs.Talking.{keeps_none, keeps_text, sends_none, sends_three, sends_cut}
use Rattle.head_end.proofs.conversing.send_due.Goals as goal

pub texts-init : goal.texts-init
texts-init g c = (all_none c.args.client.now _, keeps_none c.args.client.now _)

pub returns-in-None-clause-forecast : goal.returns-in-None-clause-forecast
returns-in-None-clause-forecast g c =
    all_twice c.args.client.now c.texts.client c.to_send.new.self _ _ _ true c.texts.invariant.0
    (all_nothing c.texts.client c.to_send.new.self _ c.in-None.ensures)

pub returns-in-None-clause-log : goal.returns-in-None-clause-log
returns-in-None-clause-log g c =
    sends_none c.texts.counter c.args.client.now c.texts.client c.to_send.new.self _ _
    c.texts.invariant.1 c.in-None.ensures

pub returns-in-Err-clause-forecast : goal.returns-in-Err-clause-forecast
returns-in-Err-clause-forecast g c =
    all_twice c.args.client.now c.texts.client c.to_send.new.self _ _ _ false c.texts.invariant.0
    (all_cut c.texts.client c.to_send.new.self c.in-Some.text _ _ c.in-Err.field-0
    c.in-Some.ensures c.in-Err.ensures.forecast)

pub returns-in-Err-clause-log : goal.returns-in-Err-clause-log
returns-in-Err-clause-log g c =
    sends_cut c.texts.counter c.args.client.now c.texts.client c.to_send.new.self c.in-Some.text _
    _ _ c.in-Err.field-0
    c.texts.invariant.1 c.in-Some.ensures (rw (c.as_slice.ensures) at c.in-Err.ensures.log)

pub texts-preserved : goal.texts-preserved
texts-preserved g c = (
  all_twice c.args.client.now c.texts.client c.to_send.new.self _ _ _ true c.texts.invariant.0
      (all_text c.texts.client c.to_send.new.self c.in-Some.text _ _
      c.in-Some.ensures c.in-Ok.ensures.forecast),
  keeps_text c.texts.counter c.args.client.now c.texts.client c.to_send.new.self c.in-Some.text _
      _ _
      c.texts.invariant.1 c.in-Some.ensures (rw (c.as_slice.ensures) at c.in-Ok.ensures.log),
)

pub returns-clause-log : goal.returns-clause-log
returns-clause-log g c = sends_three c.texts.counter c.args.client.now c.texts.client _ _
    (omega arith) c.texts.invariant.1
