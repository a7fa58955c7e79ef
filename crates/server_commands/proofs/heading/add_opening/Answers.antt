use Rattle.std.proofs.Common.{◌≡◌, ◌-◌, length, Err, ap, ◌∙◌, arith}
use Rattle.counted_io.specs.Lines.{left_in}
use Rattle.counted_io.specs.declared.fault.InputFault.{InputFault}
use Rattle.counted_io.specs.declared.fault.InputFault.TheVariants.{TooLong}
use Rattle.server_commands.specs.Heads.{lines_before, rows_from_count}
use Rattle.server_commands.proofs.Heads.{grows_after}
use Rattle.server_commands.proofs.HeadsFound.{ahead_new, behind_first, same_fault, version_line, whole_line}
use Rattle.server_commands.proofs.heading.add_opening.Goals as goal

pub returns-in_err-add_line-clause-too_long : goal.returns-in_err-add_line-clause-too_long
returns-in_err-add_line-clause-too_long g c = λ is whole rest left small laid.
    c.in_err-add_line.ensures.too_long (ap (λ (f : InputFault). Err f)
    (same_fault c.from_residual.result c.in_err-add_line.field-0.0 TooLong
    c.from_residual.ensures.1 is)) whole rest laid.first (behind_first laid) small
    (ahead_new whole rest c.args.text.now.items (left_in g.I.Read.remaining c.args.input.now) laid
    c.requires left)

pub returns-then-not-branch-clause-ahead : goal.returns-then-not-branch-clause-ahead
returns-then-not-branch-clause-ahead g c = λ whole rest laid left.
    let one = c.in_ok-add_line.ensures.ahead whole rest laid.first (behind_first laid)
    (ahead_new whole rest c.args.text.now.items (left_in g.I.Read.remaining c.args.input.now) laid
    c.requires left) in
    let read = one.0 in
    let unread = c.if-not-branch.true in
    absurd cc

pub returns-in-None-clause-ahead : goal.returns-in-None-clause-ahead
returns-in-None-clause-ahead g c = λ whole rest laid left.
    let one = c.in_ok-add_line.ensures.ahead whole rest laid.first (behind_first laid)
    (ahead_new whole rest c.args.text.now.items (left_in g.I.Read.remaining c.args.input.now) laid
    c.requires left) in
    let first = c.as_slice.ensures.value ∙ version_line c.add_line.new.text.items laid.first
    laid.version
    (whole_line c.args.text.now.items c.add_line.new.text.items laid.first c.requires one.2)
    laid.told in
    let never = c.in-None.ensures.value laid.version first in
    absurd cc

pub returns-in-Some-clause-ahead : goal.returns-in-Some-clause-ahead
returns-in-Some-clause-ahead g c = λ whole rest laid left.
    let one = c.in_ok-add_line.ensures.ahead whole rest laid.first (behind_first laid)
    (ahead_new whole rest c.args.text.now.items (left_in g.I.Read.remaining c.args.input.now) laid
    c.requires left) in
    let first = c.as_slice.ensures.value ∙ version_line c.add_line.new.text.items laid.first
    laid.version
    (whole_line c.args.text.now.items c.add_line.new.text.items laid.first c.requires one.2)
    laid.told in
    let found = c.in-Some.ensures.value laid.version first in
    let count : c.in-Some.count ≡ lines_before laid.version = cc in
    let long : length laid.opening ≡ c.in-Some.count - 1 = omega (arith, laid.before, count) in
    c.add_lines.ensures.ahead whole rest laid.opening (rows_from_count laid) long one.1

pub returns-in-Some-clause-too_long : goal.returns-in-Some-clause-too_long
returns-in-Some-clause-too_long g c = λ is whole rest left small laid.
    let one = c.in_ok-add_line.ensures.ahead whole rest laid.first (behind_first laid)
    (ahead_new whole rest c.args.text.now.items (left_in g.I.Read.remaining c.args.input.now) laid
    c.requires left) in
    let first = c.as_slice.ensures.value ∙ version_line c.add_line.new.text.items laid.first
    laid.version
    (whole_line c.args.text.now.items c.add_line.new.text.items laid.first c.requires one.2)
    laid.told in
    let found = c.in-Some.ensures.value laid.version first in
    let count : c.in-Some.count ≡ lines_before laid.version = cc in
    let long : length laid.opening ≡ c.in-Some.count - 1 = omega (arith, laid.before, count) in
    c.add_lines.ensures.too_long is whole rest laid.opening (rows_from_count laid) long small
    one.1

pub returns-in-Some-clause-grows : goal.returns-in-Some-clause-grows
returns-in-Some-clause-grows g c = grows_after c.add_lines.result c.args.text.now.items
    c.add_line.new.text.items c.add_lines.new.text.items
    (left_in g.I.Read.remaining c.args.input.now) (left_in g.I.Read.remaining c.add_line.new.input)
    (left_in g.I.Read.remaining c.add_lines.new.input)
    c.in_ok-add_line.ensures.grows c.add_lines.ensures.grows
