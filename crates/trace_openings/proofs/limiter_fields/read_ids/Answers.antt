use Rattle.std.proofs.Common.{◌≡◌, ◌≢◌, ◌∷◌, length, inr, sym, ◌∙◌, rules, arith}
use Rattle.std.proofs.lemmas.Result.{err_from_is_err_and}
use Rattle.limiter_core.specs.declared.settings.TheConstants.{MAX_GROUPS}
use Rattle.trace_openings.specs.OpeningFields.{id_from}
use Rattle.trace_words.specs.Rows.{all_at}
use Rattle.trace_words.proofs.Steps.{goes_on, refused, too_many, is_done}
use Rattle.trace_openings.proofs.OpeningLemmas.{id_is, id_fails}
use Rattle.trace_openings.proofs.limiter_fields.read_ids.Goals as goal

pub returns-then-len-eq-MAX_GROUPS : goal.returns-then-len-eq-MAX_GROUPS
returns-then-len-eq-MAX_GROUPS c =
    let is : c.items.words ≡ c.in-Some.word.now ∷ c.next.new.self = search rules in
    let full : length c.items.ids.items ≡ MAX_GROUPS = omega arith in
    record {
      ids = inr (too_many id_from MAX_GROUPS c.items.ids.items c.items.words
          c.in-Some.word.now c.next.new.self (all_at id_from MAX_GROUPS c.args.words.now) is full
          c.items.invariant.so_far);
      within_max = tt;
    }

pub returns-in_err-parse_long : goal.returns-in_err-parse_long
returns-in_err-parse_long c =
    let is : c.items.words ≡ c.in-Some.word.now ∷ c.next.new.self = search rules in
    let more : length c.items.ids.items ≢ MAX_GROUPS = omega arith in
    let p = err_from_is_err_and c.from_residual.result c.from_residual.ensures.1 in
    rw (p.1, p.2) (record {
      ids = refused id_from MAX_GROUPS c.in_err-parse_long.field-0.0
          c.items.ids.items c.items.words c.in-Some.word.now c.next.new.self
          (all_at id_from MAX_GROUPS c.args.words.now) is more
          (id_fails c.in-Some.word.now c.next.new.self c.in_err-parse_long.field-0.0
          (sym c.parse_long.ensures ∙ c.in_err-parse_long.was)) c.items.invariant.so_far;
      within_max = tt;
    })

pub items-preserved : goal.items-preserved
items-preserved c =
    let is : c.items.words ≡ c.in-Some.word.now ∷ c.next.new.self = search rules in
    let more : length c.items.ids.items ≢ MAX_GROUPS = omega arith in
    record {
      terms = (tt, tt);
      so_far = rw c.in_ok-push.ensures.items (goes_on id_from MAX_GROUPS c.items.ids.items
          c.items.words c.in-Some.word.now c.next.new.self c.in_ok-parse_long.field-0
          c.next.new.self
          (all_at id_from MAX_GROUPS c.args.words.now) is more
          (id_is c.in-Some.word.now c.next.new.self c.in_ok-parse_long.field-0
          (sym c.parse_long.ensures ∙ c.in_ok-parse_long.was)) c.items.invariant.so_far);
    }

pub returns : goal.returns
returns c = record {
  ids = is_done id_from MAX_GROUPS c.items.ids.items c.items.words
      (all_at id_from MAX_GROUPS c.args.words.now) c.in_default.ensures.steps.0
      c.items.invariant.so_far;
  within_max = c.items.invariant.so_far.few;
}
