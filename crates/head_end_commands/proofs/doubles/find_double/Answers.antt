use Rattle.std.proofs.Common.{arith}
use Rattle.head_end.specs.Jobs.{job_lines}
use Rattle.head_end_commands.proofs.DoubleLemmas.{left_next, lines_few, name_here, name_last}
use Rattle.head_end_commands.proofs.DoubleLemmas.{names_next, no_double, no_double_next}
use Rattle.head_end_commands.proofs.doubles.find_double.Goals as goal

pub find_earlier-requires-clause-line : goal.find_earlier-requires-clause-line
find_earlier-requires-clause-line c =
    name_here c.args.text.now c.lines.place c.lines.rest.now c.in-Some.line.now
    c.in-Some.next_rest.now c.lines.invariant.0 c.in-Some.ensures.lines c.in-Some.ensures.unended

pub overflow_add-place : goal.overflow_add-place
overflow_add-place c =
    omega (arith, c.lines.invariant.0.count, lines_few c.args.text.now)

pub lines-preserved : goal.lines-preserved
lines-preserved c =
    let taken = c.in-Some.ensures in
    let left = c.lines.invariant.0 in
    let here = name_here c.args.text.now c.lines.place c.lines.rest.now c.in-Some.line.now
    c.in-Some.next_rest.now left taken.lines taken.unended in (
      left_next c.args.text.now c.lines.place c.lines.rest.now c.in-Some.line.now
          c.in-Some.next_rest.now left taken.lines taken.unended,
      names_next c.lines.names c.add_name.new.names (job_lines c.args.text.now) c.lines.place
          c.in-Some.line.now here c.lines.invariant.1 c.add_name.ensures.added
          c.add_name.ensures.kept,
      no_double_next (job_lines c.args.text.now) c.lines.place c.lines.invariant.2
          c.in_default-find_earlier.ensures,
    )

pub find_earlier-requires-2-clause-line : goal.find_earlier-requires-2-clause-line
find_earlier-requires-2-clause-line c =
    name_last c.args.text.now c.lines.place c.lines.rest.now c.lines.invariant.0
    c.in_default.ensures.lines c.in_default.ensures.unended

pub returns-in-None : goal.returns-in-None
returns-in-None c =
    no_double c.args.text.now c.lines.place c.lines.rest.now c.lines.invariant.0
    c.in_default.ensures.lines c.in_default.ensures.unended c.lines.invariant.2
    c.in-None.ensures
