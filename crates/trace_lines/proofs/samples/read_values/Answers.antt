use Rattle.std.proofs.Common.{◌≡◌, ◌≢◌, ◌∷◌, length, refl, sym, ◌∙◌, rules, arith}
use Rattle.std.proofs.lemmas.Result.{err_from_is_err_and}
use Rattle.lane_sampler.specs.declared.samples.TheConstants.{MAX_VALUES}
use Rattle.trace_words.proofs.Steps.{goes_on, items_too_many, items_refused, items_done}
use Rattle.trace_words.specs.Parts.{after_first}
use Rattle.trace_words.specs.Rows.{all_at}
use Rattle.trace_lines.specs.Parts.{sample_part}
use Rattle.trace_lines.proofs.SampleSteps.{value_is, value_fails}
use Rattle.trace_lines.proofs.samples.read_values.Goals as goal

pub returns-then-len-eq-MAX_VALUES : goal.returns-then-len-eq-MAX_VALUES
returns-then-len-eq-MAX_VALUES c =
    let is : c.items.words ≡ c.in-Some.word.now ∷ c.next.new.self = search rules in
    let full : length c.items.values.items ≡ MAX_VALUES = omega arith in
    items_too_many sample_part MAX_VALUES c.items.values.items c.items.words c.in-Some.word.now
    c.next.new.self c.args.words.now is full c.items.invariant.so_far

pub returns-in_err-parse_value : goal.returns-in_err-parse_value
returns-in_err-parse_value c =
    let is : c.items.words ≡ c.in-Some.word.now ∷ c.next.new.self = search rules in
    let more : length c.items.values.items ≢ MAX_VALUES = omega arith in
    let p = err_from_is_err_and c.from_residual-in_err-parse_value.result
    c.from_residual-in_err-parse_value.ensures.1 in
    rw (p.1, p.2) (items_refused sample_part MAX_VALUES c.in_err-parse_value.field-0.0
    c.items.values.items c.items.words c.in-Some.word.now c.next.new.self c.args.words.now is more
    (value_fails c.in-Some.word.now c.next.new.self c.in_err-parse_value.field-0.0
    (sym c.parse_value.ensures ∙ c.in_err-parse_value.was)) c.items.invariant.so_far)

pub items-preserved : goal.items-preserved
items-preserved c =
    let is : c.items.words ≡ c.in-Some.word.now ∷ c.next.new.self = search rules in
    let more : length c.items.values.items ≢ MAX_VALUES = omega arith in
    record {
      terms = (tt, tt);
      so_far = rw c.in_ok-push.ensures.items (goes_on (after_first sample_part) MAX_VALUES
          c.items.values.items c.items.words c.in-Some.word.now c.next.new.self
          c.in_ok-parse_value.field-0 c.next.new.self
          (all_at (after_first sample_part) MAX_VALUES c.args.words.now) is more
          (value_is c.in-Some.word.now c.next.new.self c.in_ok-parse_value.field-0
          (sym c.parse_value.ensures ∙ c.in_ok-parse_value.was))
          c.items.invariant.so_far);
    }

pub returns : goal.returns
returns c =
    let read = items_done sample_part MAX_VALUES c.items.values.items c.items.words c.args.words.now
    c.in_default.ensures.steps.0 c.items.invariant.so_far in
    rw (read, c.in_default.ensures.steps.1) refl
