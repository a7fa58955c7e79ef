use Rattle.std.proofs.Common.{◌≡◌, get_or, decimal, ◌++◌, List, ℕ, [], ◌∷◌, append-nil, refl, ap, sym, ◌∙◌, arith}
use Rattle.trace_words.specs.Writing.{words_after_blanks, all_words}
use Rattle.trace_words.specs.Parts.{words_before}
use Rattle.trace_words.proofs.PartLaws.{before_stands}
use Rattle.trace_lines.specs.Parts.{sample_part}
use Rattle.trace_words.proofs.Blanks.{one_more, all_written}
use Rattle.trace_lines.proofs.writing.add_values.Goals as goal

pub loop-value-preserved : goal.loop-value-preserved
loop-value-preserved c =
    let v : ℕ = get_or c.args.values.now c.loop-value.value-index 0 in
    let written : c.add_number.new.out.items ≡ c.loop-value.out.items ++ ((32 ∷ decimal v) ++ []) =
    c.in_ok-add_number.ensures.ok ∙ ap (λ (n : ℕ). c.loop-value.out.items ++ 32
    ∷ decimal n) c.from.ensures ∙ ap (λ (bs : List ℕ). c.loop-value.out.items
    ++ bs) (sym (append-nil (32 ∷ decimal v))) in
    one_more (words_before sample_part) (before_stands sample_part) c.args.values.now
    c.loop-value.value-index v 0
    c.loop-value.out.items c.add_number.new.out.items (c.args.out.now.items
    ++ words_after_blanks (all_words (words_before sample_part) c.args.values.now))
    c.loop-value-test.true refl written c.loop-value.invariant

pub returns : goal.returns
returns c = all_written (words_before sample_part) c.args.values.now c.loop-value.value-index
    c.loop-value.out.items (c.args.out.now.items
    ++ words_after_blanks (all_words (words_before sample_part) c.args.values.now))
    (omega arith) c.loop-value.invariant
