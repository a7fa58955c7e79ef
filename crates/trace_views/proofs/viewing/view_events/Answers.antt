use Rattle.std.proofs.Common.{◌<◌, ◌+◌, ◌≡◌, ℕ, length, ap, arith}
use Rattle.trace_views.proofs.Steps.{event_viewed}
use Rattle.trace_views.proofs.viewing.view_events.Goals as goal

pub events-preserved : goal.events-preserved
events-preserved c =
    let below : c.events.event-index < length c.args.events.now = omega arith in
    let numbered : c.events.number + 1 ≡ c.events.event-index + 1 =
    ap (λ (n : ℕ). n + 1) c.events.invariant.0 in (
      numbered,
      event_viewed c.args.view.now c.args.core.now c.events.core c.view_event.new.core
          c.args.events.now c.events.event-index (c.events.number + 1) c.event-item.result
          c.events.out.items c.view_event.new.out.items below c.event-item.is numbered
          c.in_ok-view_event.ensures.world c.in_ok-view_event.ensures.text c.events.invariant.1,
    )
