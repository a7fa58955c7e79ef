use Rattle.std.proofs.Common.{refl, arith}
use Rattle.counted_io.specs.Lines.{has_failed_in, left_in}
use Rattle.trace_player.specs.Traces.{max_bytes}
use Rattle.server_commands.proofs.FirstLines.{line_fits, line_left, line_on, long_line, unread_line}
use Rattle.server_commands.proofs.heading.add_line.Goals as goal

pub returns-in-Ok-eq0-clause-ahead : goal.returns-in-Ok-eq0-clause-ahead
returns-in-Ok-eq0-clause-ahead g c = λ whole rest row rows ahead. absurd
    (line_left whole rest row rows c.args.text.now.items c.read_line_within.new.line.items
    c.in-Ok-eq0.field-0
    (left_in g.I.Read.remaining c.args.input.now)
    (left_in g.I.Read.remaining c.read_line_within.new.input) ahead c.in-Ok-eq0.ensures.read
    (omega arith))

pub returns-in-Ok-clause-ahead : goal.returns-in-Ok-clause-ahead
returns-in-Ok-clause-ahead g c = λ whole rest row rows ahead.
    let on = line_on whole rest row rows c.args.text.now.items c.read_line_within.new.line.items
    c.in-Ok.field-0
    (left_in g.I.Read.remaining c.args.input.now)
    (left_in g.I.Read.remaining c.read_line_within.new.input) ahead c.in-Ok.ensures.read in
    (refl, on.0, on.1)

pub returns-in-Err-clause-too_long : goal.returns-in-Err-clause-too_long
returns-in-Err-clause-too_long g c = λ is whole rest row rows small ahead.
    line_fits whole rest row rows c.args.text.now.items
    (left_in g.I.Read.remaining c.args.input.now) max_bytes ahead
    (long_line max_bytes (left_in g.I.Read.remaining c.args.input.now) c.args.text.now.items
    (has_failed_in c.read_line_within.new.input) c.in-Err.fault is c.in-Err.ensures.err) small

pub returns-in-Err-clause-err : goal.returns-in-Err-clause-err
returns-in-Err-clause-err g c =
    unread_line max_bytes (left_in g.I.Read.remaining c.args.input.now) c.args.text.now.items
    (has_failed_in c.read_line_within.new.input) c.in-Err.fault c.in-Err.ensures.err
