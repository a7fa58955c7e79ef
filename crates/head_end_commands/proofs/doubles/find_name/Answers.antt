use Rattle.std.proofs.Common.{rules}
use Rattle.head_end_commands.proofs.DoubleLemmas.{found_here, left_next, not_so_far}
use Rattle.head_end_commands.proofs.doubles.find_name.Goals as goal

pub returns-then-has_name : goal.returns-then-has_name
returns-then-has_name c = (
  search rules,
  found_here c.args.text.now c.lines.place c.lines.rest.now c.in-Some.line.now
      c.in-Some.next_rest.now c.args.name.now c.lines.invariant.0 c.in-Some.ensures.lines
      c.in-Some.ensures.unended (search rules),
)

pub lines-preserved : goal.lines-preserved
lines-preserved c = (
  left_next c.args.text.now c.lines.place c.lines.rest.now c.in-Some.line.now
      c.in-Some.next_rest.now c.lines.invariant.0 c.in-Some.ensures.lines c.in-Some.ensures.unended,
  not_so_far c.args.text.now c.lines.place c.lines.rest.now c.in-Some.line.now
      c.in-Some.next_rest.now c.args.name.now c.lines.invariant.0 c.in-Some.ensures.lines
      c.in-Some.ensures.unended c.lines.invariant.1 (search rules),
)
