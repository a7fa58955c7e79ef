use Rattle.std.proofs.Common.{◌≡◌, [], ◌++◌, length, Err, ap, ◌∙◌}
use Rattle.counted_io.specs.Lines.{left_in}
use Rattle.counted_io.specs.declared.fault.InputFault.{InputFault}
use Rattle.counted_io.specs.declared.fault.InputFault.TheVariants.{TooLong}
use Rattle.server_commands.proofs.Heads.{grows_after}
use Rattle.server_commands.proofs.HeadsFound.{all_read, line_cut, same_fault}
use Rattle.server_commands.proofs.heading.add_events.Goals as goal

pub returns-in_err-add_line-clause-too_long : goal.returns-in_err-add_line-clause-too_long
returns-in_err-add_line-clause-too_long g c = λ is whole rest laid small ahead.
    c.in_err-add_line.ensures.too_long (ap (λ (f : InputFault). Err f)
    (same_fault c.from_residual.result c.in_err-add_line.field-0.0 TooLong
    c.from_residual.ensures.1 is)) whole rest laid.events_row (laid.events ++ []) small ahead

pub returns-then-not-branch-clause-whole : goal.returns-then-not-branch-clause-whole
returns-then-not-branch-clause-whole g c = λ whole rest laid ahead.
    let one = c.in_ok-add_line.ensures.ahead whole rest laid.events_row (laid.events ++ []) ahead in
    let read = one.0 in
    let unread = c.if-not-branch.true in
    absurd cc

pub returns-in-Ok-None-clause-whole : goal.returns-in-Ok-None-clause-whole
returns-in-Ok-None-clause-whole g c = λ whole rest laid ahead.
    let one = c.in_ok-add_line.ensures.ahead whole rest laid.events_row (laid.events ++ []) ahead in
    let line = line_cut c.deref.result.now c.args.text.now.items c.add_line.new.text.items
    c.len-start.result laid.events_row c.deref.ensures.value
    (c.len-start.ensures ∙ c.args.text.now.ok.0) one.2 in
    let never = c.in-Ok-None.ensures.value laid.events_row laid.count line laid.counted in
    absurd cc

pub returns-in-Ok-Some-clause-whole : goal.returns-in-Ok-Some-clause-whole
returns-in-Ok-Some-clause-whole g c = λ whole rest laid ahead.
    let one = c.in_ok-add_line.ensures.ahead whole rest laid.events_row (laid.events ++ []) ahead in
    let line = line_cut c.deref.result.now c.args.text.now.items c.add_line.new.text.items
    c.len-start.result laid.events_row c.deref.ensures.value
    (c.len-start.ensures ∙ c.args.text.now.ok.0) one.2 in
    let found = c.in-Ok-Some.ensures.value laid.events_row laid.count line laid.counted in
    let all : length laid.events ≡ c.in-Ok-Some.events = cc in
    all_read c.add_lines.result whole rest c.add_lines.new.text.items
    (left_in g.I.Read.remaining c.add_lines.new.input)
    (c.add_lines.ensures.ahead whole rest laid.events [] all one.1)

pub returns-in-Ok-Some-clause-too_long : goal.returns-in-Ok-Some-clause-too_long
returns-in-Ok-Some-clause-too_long g c = λ is whole rest laid small ahead.
    let one = c.in_ok-add_line.ensures.ahead whole rest laid.events_row (laid.events ++ []) ahead in
    let line = line_cut c.deref.result.now c.args.text.now.items c.add_line.new.text.items
    c.len-start.result laid.events_row c.deref.ensures.value
    (c.len-start.ensures ∙ c.args.text.now.ok.0) one.2 in
    let found = c.in-Ok-Some.ensures.value laid.events_row laid.count line laid.counted in
    let all : length laid.events ≡ c.in-Ok-Some.events = cc in
    c.add_lines.ensures.too_long is whole rest laid.events [] all small one.1

pub returns-in-Ok-Some-clause-grows : goal.returns-in-Ok-Some-clause-grows
returns-in-Ok-Some-clause-grows g c = grows_after c.add_lines.result c.args.text.now.items
    c.add_line.new.text.items c.add_lines.new.text.items
    (left_in g.I.Read.remaining c.args.input.now) (left_in g.I.Read.remaining c.add_line.new.input)
    (left_in g.I.Read.remaining c.add_lines.new.input)
    c.in_ok-add_line.ensures.grows c.add_lines.ensures.grows
