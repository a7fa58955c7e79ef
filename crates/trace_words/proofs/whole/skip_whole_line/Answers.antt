use Rattle.std.proofs.Common.{sym, ◌∙◌}
use Rattle.trace_words.proofs.WholeLemmas.{none_whole, zero_whole}
use Rattle.trace_words.proofs.whole.skip_whole_line.Goals as goal

pub returns-in_default : goal.returns-in_default
returns-in_default c = none_whole c.args.text.now c.in_default.ensures.lines

pub returns-then-has_zero : goal.returns-then-has_zero
returns-then-has_zero c = zero_whole c.args.text.now c.in-Some.line.now c.in-Some.rest.now
    c.in-Some.ensures.lines (sym c.has_zero.ensures ∙ c.if-has_zero.true)
