use Rattle.std.proofs.Common.{arith}
use Rattle.trace_words.proofs.WholeLemmas.{all_kept, none_kept, one_kept, room_for_one}
use Rattle.trace_words.proofs.whole.whole_lines.Goals as goal

pub lines-init : goal.lines-init
lines-init c = none_kept c.args.text.now

pub overflow_add-count : goal.overflow_add-count
overflow_add-count c =
    omega (
      arith,
      room_for_one c.args.text.now c.lines.rest.now c.in-Some.next_rest.now c.lines.count
          c.in-Some.ensures c.lines.invariant,
    )

pub lines-preserved : goal.lines-preserved
lines-preserved c = one_kept c.args.text.now c.lines.rest.now c.in-Some.next_rest.now c.lines.count
    c.in-Some.ensures c.lines.invariant

pub returns : goal.returns
returns c = all_kept c.args.text.now c.lines.rest.now c.lines.count c.in_default.ensures
    c.lines.invariant
