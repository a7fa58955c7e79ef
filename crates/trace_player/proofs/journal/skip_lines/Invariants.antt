-- The first lines were skipped.
use Rattle.std.proofs.Common.{◌≡◌, drop}
use Rattle.text_lines.specs.Lines.{lines_of}
use Rattle.trace_player.proofs.journal.skip_lines.Given as goal

abbrev pub invariant-lines : goal.invariant-lines
invariant-lines l = lines_of l.rest ≡ drop l.counter (lines_of l.text)
