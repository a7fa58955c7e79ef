use Rattle.std.proofs.Common.{◌++◌}
use Rattle.trace_words.specs.Writing.{words_after_blanks, all_words, value_words}
use Rattle.trace_words.proofs.Blanks.{Left}
use Rattle.trace_openings.proofs.limiter_writing.add_ids.Given as goal

abbrev pub invariant-loop-id : goal.invariant-loop-id
invariant-loop-id l = Left _ value_words l.ids l.id-index l.out.items (l.initial.out.items
    ++ words_after_blanks (all_words value_words l.ids))
