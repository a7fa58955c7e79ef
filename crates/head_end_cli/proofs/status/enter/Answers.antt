use Rattle.std.proofs.Common.{◌≡◌, ◌∙◌, length, arith}
use Rattle.head_end_cli.proofs.Entered.{entered, written}
use Rattle.head_end_cli.proofs.status.enter.Goals as goal

pub returns : goal.returns
returns c =
    let long : c.args.lines.len ≡ length c.enter_answers.new.lines = omega
    (arith, c.enter_answers.ensures.len, c.as_mut_slice.ensures.len) in
    written c.args.lines.len c.enter_answers.new.lines _ long
    ∙ rw c.as_mut_slice.ensures.value at (entered c.args.answers.now c.as_mut_slice.result.now
    c.enter_answers.new.lines c.enter_answers.ensures.len c.enter_answers.ensures.lines)
