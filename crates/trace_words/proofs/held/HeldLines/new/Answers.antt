use Rattle.std.proofs.Common.{drop, length-drop, arith}
use Rattle.trace_words.proofs.PlaceLemmas.{few_rows}
use Rattle.trace_words.proofs.held.HeldLines.new.Goals as goal

pub invariant_of-result : goal.invariant_of-result
invariant_of-result c =
    let few = few_rows (drop c.args.taken c.args.text.items) in
    let left = length-drop c.args.taken c.args.text.items in
    (c.requires.within, omega (arith, few, left, c.requires.counted))
