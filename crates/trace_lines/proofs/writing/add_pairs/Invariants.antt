use Rattle.std.proofs.Common.{◌++◌}
use Rattle.trace_words.specs.Writing.{words_after_blanks}
use Rattle.trace_lines.specs.Parts.{pairs_words}
use Rattle.trace_lines.proofs.ItemsWritten.{LeftPairs}
use Rattle.trace_lines.proofs.writing.add_pairs.Given as goal

abbrev pub invariant-loop-i : goal.invariant-loop-i
invariant-loop-i l = LeftPairs l.imports l.exports l.i l.out.items (l.initial.out.items
    ++ words_after_blanks (pairs_words l.imports l.exports))
