use Rattle.std.proofs.Common.{◌≤◌, ◌++◌, ◌∷◌, ℕ, length, decimal, ap, ◌∙◌, arith}
use Rattle.trace_words.specs.Writing.{words_after_blanks}
use Rattle.trace_lines.specs.Parts.{pairs_words}
use Rattle.trace_lines.proofs.ItemsWritten.{pair_more, all_pairs_written}
use Rattle.trace_lines.proofs.writing.add_pairs.Goals as goal

pub loop-i-preserved : goal.loop-i-preserved
loop-i-preserved c =
    pair_more c.args.imports.now c.args.exports.now c.loop-i.i c.loop-i.out.items
    c.add_number.new.out.items c.add_number-in-loop-i.new.out.items (c.args.out.now.items
    ++ words_after_blanks (pairs_words c.args.imports.now c.args.exports.now))
    c.loop-i-test.true c.requires
    (c.in_ok-add_number.ensures.ok ∙ ap (λ (n : ℕ). c.loop-i.out.items ++ 32
    ∷ decimal n) c.from.ensures)
    (c.in_ok-add_number-2.ensures.ok ∙ ap (λ (n : ℕ). c.add_number.new.out.items ++ 32
    ∷ decimal n) c.from-in-loop-i.ensures)
    c.loop-i.invariant

pub returns : goal.returns
returns c =
    let behind : length c.args.exports.now ≤ c.loop-i.i = omega (arith, c.requires) in
    all_pairs_written c.args.imports.now c.args.exports.now c.loop-i.i c.loop-i.out.items
    (c.args.out.now.items ++ words_after_blanks
    (pairs_words c.args.imports.now c.args.exports.now)) c.loop-i-test.false behind
    c.loop-i.invariant
