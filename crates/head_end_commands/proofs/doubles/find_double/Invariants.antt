use Rattle.std.proofs.Common.{◌<◌, ℕ, length}
use Rattle.text_lines.specs.Lines.{lines_of}
use Rattle.head_end.specs.Jobs.{job_lines}
use Rattle.head_end_commands.specs.Doubles.{AreDouble, HasNames}
use Rattle.head_end_commands.proofs.DoubleLemmas.{LeftFrom}
use Rattle.head_end_commands.proofs.doubles.find_double.Given as goal

-- the filter has the names so far, and no two of them are one
abbrev pub invariant-lines : goal.invariant-lines
invariant-lines l = LeftFrom l.fn.text l.place l.rest
    × HasNames l.names (job_lines l.fn.text) l.place
    × ((first second : ℕ) → second < l.place → ¬ (AreDouble (job_lines l.fn.text) first second))

abbrev pub decreases-lines : goal.decreases-lines
decreases-lines l = length (lines_of l.rest)
