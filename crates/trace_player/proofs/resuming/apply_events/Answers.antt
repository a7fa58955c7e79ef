use Rattle.std.proofs.Common.{◌<◌, length, arith}
use Rattle.trace_player.proofs.Taking.{took_more}
use Rattle.trace_player.proofs.resuming.apply_events.Goals as goal

pub events-preserved : goal.events-preserved
events-preserved c =
    let below : c.events.event-index < length c.args.events.now = omega arith in
    took_more c.args.core.now c.events.core c.step.new.self c.args.events.now c.events.event-index
    c.event-item.result below c.event-item.is
    c.events.invariant c.in_ok-reply.ensures.world
