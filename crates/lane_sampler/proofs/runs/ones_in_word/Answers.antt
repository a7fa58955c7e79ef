use Rattle.std.proofs.Common.{◌≡◌, ◌∙◌, ◌%◌, ◌/◌, ◌^◌, ap, subst, sym, arith, w64, get_or}
use Rattle.std.specs.Int.{trailing_ones}
use Rattle.lane_sampler.proofs.RunLemmas.{RunInWord, run_in_word, same_word}
use Rattle.lane_sampler.proofs.runs.ones_in_word.Goals as goal

-- the run in the word that `at` is in
run : (c : goal.After-trailing_ones) → RunInWord (get_or c.args.words.now (c.args.at / 64) 0)
    (c.args.at % 64) c.trailing_ones.result
run c =
    let word = get_or c.args.words.now (c.args.at / 64) 0 in
    let found : c.trailing_ones.result ≡ trailing_ones w64 (word / 2 ^ (c.args.at % 64)) =
    c.trailing_ones.ensures
    ∙ ap (λ k. trailing_ones w64 (get_or c.args.words.now k 0 / 2 ^ (c.args.at % 64)))
    c.from.ensures in
    subst (RunInWord word (c.args.at % 64)) (sym found)
    (run_in_word word (c.args.at % 64) (c.fits-words (c.args.at / 64)) (omega arith))

pub returns-clause-within : goal.returns-clause-within
returns-clause-within c = (run c).within

pub returns-clause-set_bits : goal.returns-clause-set_bits
returns-clause-set_bits c k lt =
    same_word c.args.words.now c.args.at k (omega (arith, (run c).within)) ∙ (run c).ones k lt

pub returns-clause-stops : goal.returns-clause-stops
returns-clause-stops c lt =
    same_word c.args.words.now c.args.at c.trailing_ones.result (omega arith) ∙ (run c).stops lt
