use Rattle.std.proofs.Common.{length}
use Rattle.text_lines.specs.Lines.{lines_of}
use Rattle.head_end.proofs.ReadingLemmas.{Left}
use Rattle.head_end.proofs.jobs.read_lines.Given as goal

-- the jobs so far, and those of the lines that are left
abbrev pub invariant-lines : goal.invariant-lines
invariant-lines l = Left l.fn.text l.jobs l.number l.rest

abbrev pub decreases-lines : goal.decreases-lines
decreases-lines l = length (lines_of l.rest)
