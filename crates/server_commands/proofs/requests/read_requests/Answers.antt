use Rattle.std.proofs.Common.{arith, []}
use Rattle.server_commands.proofs.RequestLemmas.{left_all, left_more, left_none, wrong_line, lines_few}
use Rattle.server_commands.proofs.requests.read_requests.Goals as goal

pub lines-init : goal.lines-init
lines-init c = rw c.new-requests.ensures (left_all c.args.text.now)

pub returns-in-Err : goal.returns-in-Err
returns-in-Err c =
    wrong_line c.args.text.now c.lines.requests c.add_line.new.requests c.lines.number
    c.lines.rest.now c.in-Some.line.now _ c.in-Err.fault c.lines.invariant
    c.in-Some.ensures c.in-Err.ensures

pub overflow_add-number : goal.overflow_add-number
overflow_add-number c = omega (
  arith,
  c.lines.invariant.count,
  lines_few c.args.text.now,
  c.requires,
)

pub lines-preserved : goal.lines-preserved
lines-preserved c =
    left_more c.args.text.now c.lines.requests c.add_line.new.requests c.lines.number
    c.lines.rest.now c.in-Some.line.now c.in-Some.after.now c.lines.invariant
    c.in-Some.ensures c.in-Ok.ensures

pub returns-in-Err-add_line : goal.returns-in-Err-add_line
returns-in-Err-add_line c =
    wrong_line c.args.text.now c.lines.requests c.add_line-2.new.requests c.lines.number
    c.lines.rest.now c.lines.rest.now [] c.in-Err-add_line.fault c.lines.invariant
    c.in_default.ensures c.in-Err-add_line.ensures

pub returns-in-Ok-add_line : goal.returns-in-Ok-add_line
returns-in-Ok-add_line c =
    left_none c.args.text.now c.lines.requests c.add_line-2.new.requests c.lines.number
    c.lines.rest.now c.lines.invariant
    c.in_default.ensures c.in-Ok-add_line.ensures
