use Rattle.std.proofs.Common.{length}
use Rattle.text_lines.specs.Lines.{lines_of}
use Rattle.head_end.proofs.PasswordLemmas.{LeftLines}
use Rattle.head_end.proofs.passwords.find_wrong_line.Given as goal

-- the first wrong line is that of the lines that are left
abbrev pub invariant-lines : goal.invariant-lines
invariant-lines l = LeftLines l.fn.text l.number l.rest

abbrev pub decreases-lines : goal.decreases-lines
decreases-lines l = length (lines_of l.rest)
