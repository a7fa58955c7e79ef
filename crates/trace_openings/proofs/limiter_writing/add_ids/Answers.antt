use Rattle.std.proofs.Common.{◌≡◌, get_or, decimal, ◌++◌, List, ℕ, [], ◌∷◌, append-nil, refl, ap, sym, ◌∙◌, arith}
use Rattle.trace_words.specs.Writing.{words_after_blanks, all_words, value_words}
use Rattle.trace_words.proofs.Blanks.{one_more, all_written, value_stands}
use Rattle.trace_openings.proofs.limiter_writing.add_ids.Goals as goal

pub loop-id-preserved : goal.loop-id-preserved
loop-id-preserved c =
    let v : ℕ = get_or c.args.ids.now c.loop-id.id-index 0 in
    let written : c.add_number.new.out.items ≡ c.loop-id.out.items ++ ((32 ∷ decimal v) ++ []) =
    c.in_ok-add_number.ensures.ok ∙ ap (λ (n : ℕ). c.loop-id.out.items ++ 32
    ∷ decimal n) c.from.ensures ∙ ap (λ (bs : List ℕ). c.loop-id.out.items
    ++ bs) (sym (append-nil (32 ∷ decimal v))) in
    one_more value_words value_stands c.args.ids.now c.loop-id.id-index v 0 c.loop-id.out.items
    c.add_number.new.out.items (c.args.out.now.items
    ++ words_after_blanks (all_words value_words c.args.ids.now))
    c.loop-id-test.true refl written c.loop-id.invariant

pub returns : goal.returns
returns c = all_written value_words c.args.ids.now c.loop-id.id-index c.loop-id.out.items
    (c.args.out.now.items ++ words_after_blanks (all_words value_words c.args.ids.now))
    (omega arith) c.loop-id.invariant
