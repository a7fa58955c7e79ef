use Rattle.std.proofs.Common.{arith}
use Rattle.head_end.proofs.Turning.{goes_first, goes_on, converses_cut, converses_turn, converses_last}
use Rattle.head_end.proofs.Talking.{reaches_first, reaches_next, speaks_unsent, speaks_turn, speaks_starved, speaks_last}
use Rattle.head_end.proofs.conversing.converse.Goals as goal

pub returns-then-not-send_due-clause-forecast : goal.returns-then-not-send_due-clause-forecast
returns-then-not-send_due-clause-forecast g c =
    converses_cut c.args.client.now c.send_due.new.client _ _ c.give_up.result
    c.if-not-send_due.ensures.forecast c.give_up.ensures

pub returns-then-not-send_due-clause-log : goal.returns-then-not-send_due-clause-log
returns-then-not-send_due-clause-log g c =
    speaks_unsent c.args.client.now c.send_due.new.client _ _ c.give_up.result
    c.if-not-send_due.ensures.log c.give_up.ensures

pub turns-init : goal.turns-init
turns-init g c = (
  goes_first c.args.client.now c.send_due.new.client _ _ c.if-not-send_due.ensures.forecast,
  reaches_first c.args.client.now c.send_due.new.client _ _ c.if-not-send_due.ensures.log,
)

pub returns-in_err-outcome-clause-log : goal.returns-in_err-outcome-clause-log
returns-in_err-outcome-clause-log g c =
    speaks_starved c.args.client.now c.turns.client c.take_turn.new.client _ _ _ c.turns.counter _
    c.from_residual.result
    c.from_residual.ensures.0 c.turns.invariant.1 c.in_err-outcome.ensures.log

pub returns-in-Some-clause-forecast : goal.returns-in-Some-clause-forecast
returns-in-Some-clause-forecast g c =
    converses_turn c.args.client.now c.turns.client c.take_turn.new.client _ _ _ c.turns.counter
    c.in-Some.outcome (omega arith) c.turns.invariant.0
    (rw c.in-Some.is at c.in_ok-outcome.ensures.forecast)

pub returns-in-Some-clause-log : goal.returns-in-Some-clause-log
returns-in-Some-clause-log g c =
    speaks_turn c.args.client.now c.turns.client c.take_turn.new.client _ _ _ c.turns.counter
    c.in-Some.outcome c.turns.invariant.1
    (rw c.in-Some.is at c.in_ok-outcome.ensures.log)

pub turns-preserved : goal.turns-preserved
turns-preserved g c = (
  goes_on c.args.client.now c.turns.client c.take_turn.new.client _ _ _ c.turns.counter
      c.turns.invariant.0 (rw c.in_default.is at c.in_ok-outcome.ensures.forecast),
  reaches_next c.args.client.now c.turns.client c.take_turn.new.client _ _ _ c.turns.counter
      c.turns.invariant.1
      (rw c.in_default.is at c.in_ok-outcome.ensures.log),
)

pub returns-clause-forecast : goal.returns-clause-forecast
returns-clause-forecast g c =
    converses_last c.args.client.now c.turns.client _ _ c.turns.counter c.give_up-2.result
    (omega arith) c.turns.invariant.0 (omega arith) c.give_up-2.ensures

pub returns-clause-log : goal.returns-clause-log
returns-clause-log g c =
    speaks_last c.args.client.now c.turns.client _ _ c.turns.counter c.give_up-2.result
    (omega arith) c.turns.invariant.1 c.give_up-2.ensures
