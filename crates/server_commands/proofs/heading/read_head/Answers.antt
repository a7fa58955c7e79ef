use Rattle.std.proofs.Common.{Err, ap}
use Rattle.counted_io.specs.Lines.{has_failed_in, left_in}
use Rattle.counted_io.specs.declared.fault.InputFault.{InputFault}
use Rattle.server_commands.proofs.HeadsFound.{head_given, head_wrong, no_head}
use Rattle.server_commands.proofs.heading.read_head.Goals as goal

pub returns-in-Ok-clause-ok : goal.returns-in-Ok-clause-ok
returns-in-Ok-clause-ok g c = head_given (left_in g.I.Read.remaining c.args.input.now)
    (left_in g.I.Read.remaining c.read_head_text.new.input) c.new-text.result.items
    c.read_head_text.new.text.items c.as_slice.result.now c.in-Ok.is_counted c.trace_in.result
    c.new-text.ensures.items c.in-Ok.ensures.grows c.as_slice.ensures.value c.in-Ok.ensures.whole
    c.trace_in.ensures.ok

pub returns-in-Ok-clause-err : goal.returns-in-Ok-clause-err
returns-in-Ok-clause-err g c = head_wrong (left_in g.I.Read.remaining c.args.input.now)
    (left_in g.I.Read.remaining c.read_head_text.new.input) c.new-text.result.items
    c.read_head_text.new.text.items c.as_slice.result.now c.in-Ok.is_counted
    (has_failed_in c.read_head_text.new.input) c.trace_in.result
    c.new-text.ensures.items c.in-Ok.ensures.grows c.as_slice.ensures.value c.in-Ok.ensures.whole
    c.trace_in.ensures.err

pub returns-in-Err-TooLong-clause-err : goal.returns-in-Err-TooLong-clause-err
returns-in-Err-TooLong-clause-err g c = no_head (left_in g.I.Read.remaining c.args.input.now)
    (λ whole rest left small laid. c.in-Err-TooLong.ensures.too_long
    (ap (λ (f : InputFault). Err f) c.in-Err-TooLong.field-0-is) whole rest left small laid)
