use Rattle.std.proofs.lemmas.Result.{err_from_is_err_and}
use Rattle.trace_player.specs.Traces.{events_at}
use Rattle.trace_player.proofs.EventsRead.{event_read, event_refused, events_read}
use Rattle.trace_player.proofs.reading.read_events.Goals as goal

pub returns-in_err-next_event : goal.returns-in_err-next_event
returns-in_err-next_event c =
    let p = err_from_is_err_and c.from_residual.result c.from_residual.ensures.1 in
    rw (p.1, p.2) (event_refused c.args.version c.args.count c.events.counter c.events.events
    c.events.lines c.in_err-next_event.field-0.0
    (events_at c.args.version c.args.count c.args.lines.now) c.events-test.true
    c.in_err-next_event.ensures c.events.invariant)

pub events-preserved : goal.events-preserved
events-preserved c =
    event_read c.args.version c.args.count c.events.counter c.events.events c.push.new.self
    c.events.lines c.next_event.new.lines c.in_ok-next_event.field-0
    (events_at c.args.version c.args.count c.args.lines.now) c.events-test.true
    c.in_ok-next_event.ensures c.in_ok-push.ensures.ok c.events.invariant

pub returns : goal.returns
returns c =
    events_read c.args.version c.args.count c.events.counter c.events.events c.events.lines
    (events_at c.args.version c.args.count c.args.lines.now) c.events-test.false
    c.events.invariant
