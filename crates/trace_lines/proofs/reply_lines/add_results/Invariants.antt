use Rattle.std.proofs.Common.{◌++◌}
use Rattle.trace_words.specs.Writing.{words_after_blanks, all_words}
use Rattle.trace_lines.specs.Replies.{result_words}
use Rattle.trace_words.proofs.Blanks.{Left}
use Rattle.trace_lines.proofs.reply_lines.add_results.Given as goal

abbrev pub invariant-loop-item : goal.invariant-loop-item
invariant-loop-item l = Left _ result_words l.items l.item-index l.out.items (l.initial.out.items
    ++ words_after_blanks (all_words result_words l.items))
