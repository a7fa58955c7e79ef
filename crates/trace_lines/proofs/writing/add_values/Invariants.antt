use Rattle.std.proofs.Common.{◌++◌}
use Rattle.trace_words.specs.Writing.{words_after_blanks, all_words}
use Rattle.trace_words.specs.Parts.{words_before}
use Rattle.trace_lines.specs.Parts.{sample_part}
use Rattle.trace_words.proofs.Blanks.{Left}
use Rattle.trace_lines.proofs.writing.add_values.Given as goal

abbrev pub invariant-loop-value : goal.invariant-loop-value
invariant-loop-value l = Left _ (words_before sample_part) l.values l.value-index l.out.items
    (l.initial.out.items ++ words_after_blanks (all_words (words_before sample_part) l.values))
