use Rattle.std.proofs.lemmas.Result.{err_from_is_err_and}
use Rattle.std.specs.Option.{option_copied}
use Rattle.clap.specs.Matches.{found_of}
use Rattle.head_end_commands.proofs.Plans.{jobs_of_file, jobs_of_text}
use Rattle.head_end_commands.proofs.passwords.passwords.Goals as goal

pub returns-in_err-text-clause-err : goal.returns-in_err-text-clause-err
returns-in_err-text-clause-err c =
    let p = err_from_is_err_and c.from_residual.result c.from_residual.ensures.1 in
    rw (p.1, p.2)
    (jobs_of_file (found_of c.args.matches.now) (option_copied c.args.common) _
    (λ none. c.in_err-text.ensures.no_file none) c.in_err-text.ensures.err)

pub returns-clause-err : goal.returns-clause-err
returns-clause-err c =
    jobs_of_text (found_of c.args.matches.now) c.in_ok-text.text.items
    (option_copied c.args.common) c.args.jobs.now c.passwords_in-passwords.result
    c.in_ok-text.ensures.no_file
    (rw c.as_slice.ensures.value at c.passwords_in-passwords.ensures.err)
