use Rattle.std.proofs.Common.{◌≡◌, length}
use Rattle.text_lines.specs.Lines.{lines_of}
use Rattle.head_end.specs.Jobs.{job_lines}
use Rattle.head_end.specs.JobPasswords.{password_of}
use Rattle.head_end.proofs.passwords.find_password.Given as goal

-- the password is that of the lines that are left
abbrev pub invariant-lines : goal.invariant-lines
invariant-lines l = password_of (job_lines l.fn.text) l.name ≡ password_of (job_lines l.rest) l.name

abbrev pub decreases-lines : goal.decreases-lines
decreases-lines l = length (lines_of l.rest)
