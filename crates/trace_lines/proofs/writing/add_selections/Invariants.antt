use Rattle.std.proofs.Common.{◌++◌}
use Rattle.trace_words.specs.Writing.{words_after_blanks, all_words}
use Rattle.trace_words.specs.Parts.{words_before}
use Rattle.trace_lines.specs.Parts.{selection_part}
use Rattle.trace_words.proofs.Blanks.{Left}
use Rattle.trace_lines.proofs.writing.add_selections.Given as goal

abbrev pub invariant-loop-item : goal.invariant-loop-item
invariant-loop-item l = Left _ (words_before selection_part) l.items l.item-index l.out.items
    (l.initial.out.items ++ words_after_blanks (all_words (words_before selection_part) l.items))
