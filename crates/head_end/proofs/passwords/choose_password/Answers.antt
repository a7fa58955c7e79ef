use Rattle.std.proofs.Common.{rules}
use Rattle.head_end.proofs.PasswordLemmas.{sized_in_text}
use Rattle.head_end.proofs.passwords.choose_password.Goals as goal

pub returns-in-Some-clause-sized : goal.returns-in-Some-clause-sized
returns-in-Some-clause-sized c =
    sized_in_text c.args.text.now c.args.job.now.id c.in-Some.password.now c.requires.lines
    (search rules)
