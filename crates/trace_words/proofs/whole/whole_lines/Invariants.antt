-- The lines so far are whole.
use Rattle.std.proofs.Common.{length}
use Rattle.text_lines.specs.Lines.{lines_of}
use Rattle.trace_words.proofs.WholeLemmas.{Kept}
use Rattle.trace_words.proofs.whole.whole_lines.Given as goal

abbrev pub invariant-lines : goal.invariant-lines
invariant-lines l = Kept l.fn.text l.rest l.count

abbrev pub decreases-lines : goal.decreases-lines
decreases-lines l = length (lines_of l.rest)
