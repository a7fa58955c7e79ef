use Rattle.std.proofs.Common.{sym, ◌∙◌}
use Rattle.program.proofs.PasswordLemmas.{further_line}
use Rattle.program.proofs.password.line_of_file.Goals as goal

pub returns-then-contains-clause-err : goal.returns-then-contains-clause-err
returns-then-contains-clause-err c =
    further_line c.args.bytes.now c.without_line_end-line.result.now
    c.without_line_end-line.ensures (sym c.contains.ensures.value ∙ c.if-contains.true)
