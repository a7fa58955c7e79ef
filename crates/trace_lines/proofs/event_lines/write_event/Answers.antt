use Rattle.trace_lines.proofs.PlainLines.{event_line_plain, on_ok_any}
use Rattle.trace_lines.proofs.event_lines.write_event.Goals as goal

pub returns-clause-plain : goal.returns-clause-plain
returns-clause-plain c = on_ok_any _ (event_line_plain c.args.event.now c.event_is_named.ensures
    c.in_ok-add_event.ensures.plain)
