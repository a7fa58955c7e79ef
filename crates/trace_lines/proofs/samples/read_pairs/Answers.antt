use Rattle.std.proofs.Common.{◌≡◌, ◌≢◌, ◌∷◌, length, refl, rules, arith}
use Rattle.std.proofs.lemmas.Result.{err_from_is_err_and}
use Rattle.lane_sampler.specs.declared.samples.TheConstants.{MAX_VALUES}
use Rattle.trace_words.proofs.Steps.{goes_on, items_too_many, items_refused, items_done}
use Rattle.trace_words.specs.Parts.{after_first}
use Rattle.trace_words.specs.Rows.{all_at}
use Rattle.trace_lines.specs.Parts.{pair_part}
use Rattle.trace_lines.proofs.samples.read_pairs.Goals as goal

pub returns-then-len-eq-MAX_VALUES : goal.returns-then-len-eq-MAX_VALUES
returns-then-len-eq-MAX_VALUES c =
    let is : c.items.words ≡ c.in-Some.word.now ∷ c.next.new.self = search rules in
    let full : length c.items.pairs.items ≡ MAX_VALUES = omega arith in
    items_too_many pair_part MAX_VALUES c.items.pairs.items c.items.words c.in-Some.word.now
    c.next.new.self c.args.words.now is full c.items.invariant.so_far

pub returns-in_err-read_pair : goal.returns-in_err-read_pair
returns-in_err-read_pair c =
    let is : c.items.words ≡ c.in-Some.word.now ∷ c.next.new.self = search rules in
    let more : length c.items.pairs.items ≢ MAX_VALUES = omega arith in
    let p = err_from_is_err_and c.from_residual.result c.from_residual.ensures.1 in
    rw (p.1, p.2) (items_refused pair_part MAX_VALUES c.in_err-read_pair.field-0.0
    c.items.pairs.items c.items.words c.in-Some.word.now c.next.new.self c.args.words.now is more
    c.in_err-read_pair.ensures c.items.invariant.so_far)

pub items-preserved : goal.items-preserved
items-preserved c =
    let is : c.items.words ≡ c.in-Some.word.now ∷ c.next.new.self = search rules in
    let more : length c.items.pairs.items ≢ MAX_VALUES = omega arith in
    record {
      terms = (tt, tt);
      so_far = rw c.in_ok-push.ensures.items (goes_on (after_first pair_part) MAX_VALUES
          c.items.pairs.items c.items.words c.in-Some.word.now c.next.new.self
          c.in_ok-read_pair.field-0 c.read_pair.new.words
          (all_at (after_first pair_part) MAX_VALUES c.args.words.now) is more
          c.in_ok-read_pair.ensures
          c.items.invariant.so_far);
    }

pub returns : goal.returns
returns c =
    let read = items_done pair_part MAX_VALUES c.items.pairs.items c.items.words c.args.words.now
    c.in_default.ensures.steps.0 c.items.invariant.so_far in
    rw (read, c.in_default.ensures.steps.1) refl
