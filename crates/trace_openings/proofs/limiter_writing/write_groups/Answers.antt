use Rattle.std.proofs.Common.{◌≡◌, ◌++◌, ap, ◌∙◌, List, ℕ}
use Rattle.trace_words.specs.Writing.{words_after_blanks, all_words, value_words}
use Rattle.trace_openings.proofs.OpeningText.{ended_line}
use Rattle.trace_openings.proofs.limiter_writing.write_groups.Goals as goal

pub returns : goal.returns
returns c =
    let written : c.add_ids.new.out.items ≡ c.write_label.new.out.items
    ++ words_after_blanks (all_words value_words c.args.groups.now) =
    c.in_ok-add_ids.ensures ∙ ap (λ (ids : List ℕ). c.write_label.new.out.items
    ++ words_after_blanks (all_words value_words ids)) c.as_slice.ensures in
    ended_line _ (all_words value_words c.args.groups.now) _ _ _ _ c.end_line.result
    c.in_ok-write_label.ensures written c.end_line.ensures.ok
