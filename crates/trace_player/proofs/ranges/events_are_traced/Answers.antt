use Rattle.std.proofs.Common.{arith}
use Rattle.trace_lines.specs.Traced.{FitsLine, IsTraced}
use Rattle.trace_openings.proofs.RangeLemmas.{all_more, all_of}
use Rattle.trace_player.proofs.ranges.events_are_traced.Goals as goal

pub events-preserved : goal.events-preserved
events-preserved c =
    all_more (λ event. FitsLine event → IsTraced event) c.args.events.now c.events.event-index
    c.event-item.result (omega arith) c.event-item.is c.events.invariant
    c.event_is_traced.ensures

pub returns : goal.returns
returns c = all_of (λ event. FitsLine event → IsTraced event) c.args.events.now c.events.event-index
    (omega arith) c.events.invariant
