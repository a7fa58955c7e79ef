use Rattle.std.proofs.Common.{Result, subst}
use Rattle.relay_events.specs.declared.event.Event.{Event}
use Rattle.trace_lines.specs.Events.{event_of}
use Rattle.trace_words.specs.Places.{line_as}
use Rattle.trace_words.specs.declared.fault.TraceFault.{TraceFault}
use Rattle.trace_views.proofs.Fronts.{all_read, one_read, wrong_read}
use Rattle.trace_views.specs.Fronts.{ReadsEvent, events_front}
use Rattle.trace_views.proofs.front.read_events.Goals as goal

pub returns-in-Err-clause-exact : goal.returns-in-Err-clause-exact
returns-in-Err-clause-exact c =
    wrong_read c.args.version c.args.count c.events.counter c.events.events c.events.lines
    c.in-Err.fault (events_front c.args.version c.args.count c.args.lines.now) c.events-test.true
    (subst (λ (read : Result Event TraceFault). ReadsEvent read c.next_or_fault.new.lines
    (line_as (event_of c.args.version) c.events.lines)) c.in-Err.is c.in_ok-event.ensures).0
    c.events.invariant

pub events-preserved : goal.events-preserved
events-preserved c =
    one_read c.args.version c.args.count c.events.counter c.events.events c.push.new.self
    c.events.lines c.next_or_fault.new.lines c.in-Ok.event
    (events_front c.args.version c.args.count c.args.lines.now) c.events-test.true
    (subst (λ (read : Result Event TraceFault). ReadsEvent read c.next_or_fault.new.lines
    (line_as (event_of c.args.version) c.events.lines)) c.in-Ok.is c.in_ok-event.ensures)
    c.in_ok-push-in-Ok.ensures.ok c.events.invariant

pub returns-clause-exact : goal.returns-clause-exact
returns-clause-exact c =
    all_read c.args.version c.args.count c.events.counter c.events.events c.events.lines
    c.end_of.result (events_front c.args.version c.args.count c.args.lines.now) c.events-test.false
    c.end_of.ensures.end c.events.invariant
