use Rattle.std.proofs.Common.{Err, ap, arith}
use Rattle.counted_io.specs.Lines.{left_in}
use Rattle.counted_io.specs.declared.fault.InputFault.{InputFault}
use Rattle.counted_io.specs.declared.fault.InputFault.TheVariants.{TooLong}
use Rattle.server_commands.proofs.FirstLines.{lines_left, lines_on}
use Rattle.server_commands.proofs.Heads.{grows_on}
use Rattle.server_commands.proofs.HeadsFound.{same_fault}
use Rattle.server_commands.proofs.heading.add_lines.Goals as goal

pub returns-in_err-add_line-clause-too_long : goal.returns-in_err-add_line-clause-too_long
returns-in_err-add_line-clause-too_long g c = λ is whole rest front rows long small ahead.
    lines_left whole rest front rows c.lines.counter c.lines.text.items
    (left_in g.I.Read.remaining c.lines.input) (omega (arith, c.lines-test.true, long))
    (c.lines.invariant.ahead whole rest front rows long ahead)
    (λ row others there. c.in_err-add_line.ensures.too_long
    (ap (λ (f : InputFault). Err f) (same_fault c.from_residual.result c.in_err-add_line.field-0.0
    TooLong c.from_residual.ensures.1 is)) whole rest row others small there)

pub returns-then-not-branch-clause-ahead : goal.returns-then-not-branch-clause-ahead
returns-then-not-branch-clause-ahead g c = λ whole rest front rows long ahead. absurd
    (lines_left whole rest front rows c.lines.counter c.lines.text.items
    (left_in g.I.Read.remaining c.lines.input) (omega (arith, c.lines-test.true, long))
    (c.lines.invariant.ahead whole rest front rows long ahead)
    (λ row others there.
    let read = (c.in_ok-add_line.ensures.ahead whole rest row others there).0 in
    let unread = c.if-not-branch.true in
    absurd cc))

pub lines-preserved : goal.lines-preserved
lines-preserved g c = record {
  grows = grows_on c.args.text.now.items c.lines.text.items c.add_line.new.text.items
      (left_in g.I.Read.remaining c.args.input.now) (left_in g.I.Read.remaining c.lines.input)
      (left_in g.I.Read.remaining c.add_line.new.input) c.lines.invariant.grows
      c.in_ok-add_line.ensures.grows;
  ahead = λ whole rest front rows long ahead.
      lines_on whole rest front rows c.lines.counter c.lines.text.items c.add_line.new.text.items
      (left_in g.I.Read.remaining c.lines.input) (left_in g.I.Read.remaining c.add_line.new.input)
      (omega (arith, c.lines-test.true, long))
      (c.lines.invariant.ahead whole rest front rows long ahead)
      (λ row others there.
      let line = c.in_ok-add_line.ensures.ahead whole rest row others there in (line.1, line.2));
}
