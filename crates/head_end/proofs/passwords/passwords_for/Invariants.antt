use Rattle.std.proofs.Common.{◌≡◌, length, take}
use Rattle.std.specs.List.{All}
use Rattle.std.specs.Option.{option_copied}
use Rattle.acse_ber.specs.Password.{IsPassword}
use Rattle.head_end.specs.Jobs.{job_lines}
use Rattle.head_end.specs.JobPasswords.{HavePasswords}
use Rattle.head_end.proofs.passwords.passwords_for.Given as goal

-- the passwords so far are those of the jobs so far
abbrev pub invariant-loop-i : goal.invariant-loop-i
invariant-loop-i l = HavePasswords (job_lines l.text) (option_copied l.common) (take l.i l.jobs)
    l.passwords × All IsPassword l.passwords × (length l.passwords ≡ l.i)
