use Rattle.std.proofs.Common.{rules}
use Rattle.head_end.proofs.PasswordLemmas.{found_here, found_later, found_last}
use Rattle.head_end.proofs.passwords.find_password.Goals as goal

pub returns-in-Some-password_in : goal.returns-in-Some-password_in
returns-in-Some-password_in c =
    found_here c.args.text.now c.lines.rest.now c.in-Some.line.now c.in-Some.next_rest.now
    c.args.name.now c.in-Some-password_in.password.now c.lines.invariant c.in-Some.ensures.lines
    c.in-Some.ensures.unended (search rules)

pub lines-preserved : goal.lines-preserved
lines-preserved c =
    found_later c.args.text.now c.lines.rest.now c.in-Some.line.now c.in-Some.next_rest.now
    c.args.name.now c.lines.invariant c.in-Some.ensures.lines c.in-Some.ensures.unended
    (search rules)

pub returns : goal.returns
returns c =
    found_last c.args.text.now c.lines.rest.now c.args.name.now _ c.lines.invariant
    c.in_default.ensures.lines c.in_default.ensures.unended c.password_in-2.ensures
