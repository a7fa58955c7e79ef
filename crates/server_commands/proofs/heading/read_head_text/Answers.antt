use Rattle.std.proofs.Common.{Err, ap}
use Rattle.counted_io.specs.Lines.{left_in}
use Rattle.counted_io.specs.declared.fault.InputFault.{InputFault}
use Rattle.counted_io.specs.declared.fault.InputFault.TheVariants.{TooLong}
use Rattle.server_commands.proofs.Heads.{grows_after}
use Rattle.server_commands.proofs.HeadsFound.{same_fault}
use Rattle.server_commands.proofs.heading.read_head_text.Goals as goal

pub returns-in_err-add_opening-clause-too_long : goal.returns-in_err-add_opening-clause-too_long
returns-in_err-add_opening-clause-too_long g c = λ is.
    c.in_err-add_opening.ensures.too_long (ap (λ (f : InputFault). Err f)
    (same_fault c.from_residual.result c.in_err-add_opening.field-0.0 TooLong
    c.from_residual.ensures.1 is))

pub returns-then-branch-clause-whole : goal.returns-then-branch-clause-whole
returns-then-branch-clause-whole g c = λ whole rest left laid.
    c.add_events.ensures.whole whole rest laid
    (c.in_ok-add_opening.ensures.ahead whole rest laid left).1

pub returns-then-branch-clause-too_long : goal.returns-then-branch-clause-too_long
returns-then-branch-clause-too_long g c = λ is whole rest left small laid.
    c.add_events.ensures.too_long is whole rest laid small
    (c.in_ok-add_opening.ensures.ahead whole rest laid left).1

pub returns-then-branch-clause-grows : goal.returns-then-branch-clause-grows
returns-then-branch-clause-grows g c = grows_after c.add_events.result c.args.text.now.items
    c.add_opening.new.text.items c.add_events.new.text.items
    (left_in g.I.Read.remaining c.args.input.now)
    (left_in g.I.Read.remaining c.add_opening.new.input)
    (left_in g.I.Read.remaining c.add_events.new.input)
    c.in_ok-add_opening.ensures.grows c.add_events.ensures.grows

pub returns-else-branch-clause-whole : goal.returns-else-branch-clause-whole
returns-else-branch-clause-whole g c = λ whole rest left laid.
    let read = (c.in_ok-add_opening.ensures.ahead whole rest laid left).0 in
    let unread = c.if-branch.false in
    absurd cc
