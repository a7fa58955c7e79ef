use Rattle.std.proofs.Common.{◌≡◌, ◌<◌, ◌+◌, take, List, length, get_or, arith, subst, sym, ◌∙◌, ap}
use Rattle.relay_events.specs.declared.reply.Line.{Line}
use Rattle.relay_core.specs.Runs.{Runs}
use Rattle.relay_core.proofs.RunLemmas.{ran_further, stops_at}
use Rattle.relay_core.proofs.running.run.Goals as goal

pub returns-in-Err-clause-stop : goal.returns-in-Err-clause-stop
returns-in-Err-clause-stop c =
    let below : c.events.event-index < length c.args.events.now =
    omega (arith, ap length c.as_slice-event-items.ensures) in
    let event = c.event-item.result in
    let is : event ≡ get_or c.args.events.now c.events.event-index event =
    c.event-item.is ∙ ap (λ es. get_or es c.events.event-index event)
    c.as_slice-event-items.ensures in
    let ran : Runs c.args.core.now c.events.core (take c.events.event-index c.args.events.now)
    c.from_vec.result =
    subst (λ (lines : List Line). Runs c.args.core.now c.events.core
    (take c.events.event-index c.args.events.now) lines)
    (sym c.from_vec.ensures) c.events.invariant.ran in
    stops_at c.args.core.now c.events.core c.step_to_line.new.core c.args.events.now
    c.events.event-index event c.from_vec.result
    below is ran c.in-Err.ensures.err c.in-Err.ensures.sure

pub events-preserved : goal.events-preserved
events-preserved c =
    let below : c.events.event-index < length c.args.events.now =
    omega (arith, ap length c.as_slice-event-items.ensures) in
    let event = c.event-item.result in
    let is : event ≡ get_or c.args.events.now c.events.event-index event =
    c.event-item.is ∙ ap (λ es. get_or es c.events.event-index event)
    c.as_slice-event-items.ensures in
    let pushed = rw c.unwrap.ensures at c.push.ensures.items in
    let counted = rw c.unwrap.ensures at c.push.ensures.len in
    let ran = ran_further c.args.core.now c.events.core c.step_to_line.new.core c.args.events.now
    c.events.event-index event
    c.events.lines.items c.in-Ok-step_to_line.line below is c.events.invariant.ran
    c.in-Ok-step_to_line.ensures.world c.in-Ok-step_to_line.ensures.line in
    record {
      ran = subst (λ (lines : List Line). Runs c.args.core.now c.step_to_line.new.core
          (take (c.events.event-index + 1) c.args.events.now) lines)
          (sym pushed) ran;
      counted = omega (arith, counted);
      room = omega (arith, c.push.ensures.capacity);
    }
