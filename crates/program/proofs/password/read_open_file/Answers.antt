use Rattle.std.proofs.Common.{sym, subst}
use Rattle.std.specs.Io.KnownBytes.{Consumes}
use Rattle.program.proofs.PasswordLemmas.{no_line_read}
use Rattle.program.proofs.password.read_open_file.Goals as goal

pub returns-in-Ok-clause-err : goal.returns-in-Ok-clause-err
returns-in-Ok-clause-err g c =
    let read = subst (Consumes (g.R.Reader.remaining c.args.reader.now)
    (g.R.Reader.remaining c.read_to_end_within.new.reader)) (sym c.as_slice.ensures.value)
    c.in-Ok.ensures.read in
    no_line_read c.args.mode _ _ _ _ c.as_slice.result.now c.line_of_file.result read
    c.in-Ok.ensures.at_end c.line_of_file.ensures.err
