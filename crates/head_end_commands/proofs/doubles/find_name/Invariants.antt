use Rattle.std.proofs.Common.{◌≢◌, ◌<◌, ℕ, Some}
use Rattle.head_end.specs.Jobs.{job_lines}
use Rattle.head_end_commands.specs.Doubles.{name_at}
use Rattle.head_end_commands.proofs.DoubleLemmas.{LeftFrom}
use Rattle.head_end_commands.proofs.doubles.find_name.Given as goal

-- no line so far has the name
abbrev pub invariant-lines : goal.invariant-lines
invariant-lines l = LeftFrom l.fn.text l.place l.rest
    × ((k : ℕ) → k < l.place → name_at (job_lines l.fn.text) k ≢ Some l.name)
