use Rattle.std.proofs.Common.{◌≡◌, rules, arith, refl}
use Rattle.head_end.proofs.Turning.{feeding, turn_ended, turn_failed, turn_cut, turn_on}
use Rattle.head_end.proofs.Talking.{turn_over, turn_broken, turn_starved, hears, turn_unsent, turn_settled}
use Rattle.head_end.proofs.conversing.take_turn.Goals as goal

pub returns-in-Ok-eq0-clause-forecast : goal.returns-in-Ok-eq0-clause-forecast
returns-in-Ok-eq0-clause-forecast g c =
    let none : c.in-Ok-eq0.field-0 ≡ 0 = omega arith in
    turn_ended c.args.client.now c.give_up.new.client c.read.new.buffer _ _ _ c.give_up.result
    (search rules)
    (rw none at c.in-Ok-eq0.ensures.forecast) c.give_up.ensures

pub returns-in-Err-clause-forecast : goal.returns-in-Err-clause-forecast
returns-in-Err-clause-forecast g c =
    turn_failed c.args.client.now c.give_up-in-Err.new.client c.read.new.buffer _ _ _
    c.in-Err.field-0 c.give_up-in-Err.result (search rules)
    c.in-Err.ensures.forecast c.give_up-in-Err.ensures

pub returns-then-not-send_due-clause-forecast : goal.returns-then-not-send_due-clause-forecast
returns-then-not-send_due-clause-forecast g c =
    turn_cut c.args.client.now c.feed.new.self c.send_due.new.client
    c.give_up-then-not-send_due.new.client _ _ _ _ c.give_up-then-not-send_due.result
    (feeding c.args.client.now c.feed.new.self c.in-Ok.count _ c.read.new.buffer _ _
    (search rules) c.in-Ok.count-test.1 refl c.in-Ok.ensures.forecast c.in_ok-feed.ensures.ok)
    c.if-not-send_due.ensures.forecast c.give_up-then-not-send_due.ensures

pub returns-clause-forecast : goal.returns-clause-forecast
returns-clause-forecast g c =
    turn_on c.args.client.now c.feed.new.self c.send_due.new.client _ _ _ c.outcome.result
    (feeding c.args.client.now c.feed.new.self c.in-Ok.count _ c.read.new.buffer _ _
    (search rules) c.in-Ok.count-test.1 refl c.in-Ok.ensures.forecast c.in_ok-feed.ensures.ok)
    c.if-not-send_due.ensures.forecast c.outcome.ensures

pub returns-in-Ok-eq0-clause-log : goal.returns-in-Ok-eq0-clause-log
returns-in-Ok-eq0-clause-log g c =
    let none : c.in-Ok-eq0.field-0 ≡ 0 = omega arith in
    turn_over c.args.client.now c.give_up.new.client c.read.new.buffer _ _ c.give_up.result
    (rw none at c.in-Ok-eq0.ensures.log) c.give_up.ensures

pub returns-in-Err-clause-log : goal.returns-in-Err-clause-log
returns-in-Err-clause-log g c =
    turn_broken c.args.client.now c.give_up-in-Err.new.client c.read.new.buffer _ _
    c.in-Err.field-0 c.give_up-in-Err.result
    c.in-Err.ensures.log c.give_up-in-Err.ensures

pub returns-in_err-feed-clause-log : goal.returns-in_err-feed-clause-log
returns-in_err-feed-clause-log g c =
    turn_starved c.args.client.now c.feed.new.self c.in-Ok.count c.read.new.buffer _ _
    c.from_residual.result c.from_residual.ensures.0
    c.in-Ok.count-test.1 c.in-Ok.ensures.log

pub returns-then-not-send_due-clause-log : goal.returns-then-not-send_due-clause-log
returns-then-not-send_due-clause-log g c =
    turn_unsent c.args.client.now c.feed.new.self c.send_due.new.client
    c.give_up-then-not-send_due.new.client _ _ _ c.give_up-then-not-send_due.result
    (hears c.args.client.now c.feed.new.self c.in-Ok.count _ c.read.new.buffer _ _
    c.in-Ok.count-test.1 refl c.in-Ok.ensures.log c.in_ok-feed.ensures.ok)
    c.if-not-send_due.ensures.log c.give_up-then-not-send_due.ensures

pub returns-clause-log : goal.returns-clause-log
returns-clause-log g c =
    turn_settled c.args.client.now c.feed.new.self c.send_due.new.client _ _ _ c.outcome.result
    (hears c.args.client.now c.feed.new.self c.in-Ok.count _ c.read.new.buffer _ _
    c.in-Ok.count-test.1 refl c.in-Ok.ensures.log c.in_ok-feed.ensures.ok)
    c.if-not-send_due.ensures.log c.outcome.ensures
