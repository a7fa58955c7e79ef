use Rattle.std.proofs.Common.{arith, rules}
use Rattle.head_end.proofs.ReadingLemmas.{lines_few}
use Rattle.head_end.proofs.PasswordLemmas.{wrong_here, right_here, wrong_last, right_last}
use Rattle.head_end.proofs.passwords.find_wrong_line.Goals as goal

pub returns-then-not-is_password_line : goal.returns-then-not-is_password_line
returns-then-not-is_password_line c =
    wrong_here c.args.text.now c.lines.rest.now c.in-Some.line.now c.in-Some.next_rest.now
    c.lines.number c.lines.invariant c.in-Some.ensures.lines c.in-Some.ensures.unended
    (search rules)

pub overflow_add-number : goal.overflow_add-number
overflow_add-number c = omega (arith, c.lines.invariant.count, lines_few c.args.text.now)

pub lines-preserved : goal.lines-preserved
lines-preserved c =
    right_here c.args.text.now c.lines.rest.now c.in-Some.line.now c.in-Some.next_rest.now
    c.lines.number c.lines.invariant c.in-Some.ensures.lines c.in-Some.ensures.unended
    (search rules)

pub returns-then-is_password_line : goal.returns-then-is_password_line
returns-then-is_password_line c =
    right_last c.args.text.now c.lines.rest.now c.lines.number c.lines.invariant
    c.in_default.ensures.lines c.in_default.ensures.unended (search rules)

pub returns-else-is_password_line : goal.returns-else-is_password_line
returns-else-is_password_line c =
    wrong_last c.args.text.now c.lines.rest.now c.lines.number c.lines.invariant
    c.in_default.ensures.lines c.in_default.ensures.unended (search rules)
