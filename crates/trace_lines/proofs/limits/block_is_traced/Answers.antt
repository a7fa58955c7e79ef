use Rattle.std.proofs.Common.{◌≡◌, ℕ, ◌≤◌, List, sym, ap, ◌∙◌, length}
use Rattle.trace_lines.specs.Traced.{IsTraced}
use Rattle.trace_lines.proofs.Ranges.{pairs_fit}
use Rattle.trace_lines.proofs.limits.block_is_traced.Goals as goal

pub returns-in-Some : goal.returns-in-Some
unfolding IsTraced
returns-in-Some c =
    let even : length c.values.result.now ≡ length c.in-Some.values.now =
    ap (λ (values : List ℕ). length values) c.values.ensures.values
    ∙ sym c.in-Some.ensures.same_length in
    let few : length c.values.result.now ≤ 256 =
    rw c.values.ensures.values c.values.ensures.within_max in
    rw (sym c.in-Some.ensures.values, sym c.values.ensures.values) (
      even,
      pairs_fit c.values.result.now c.in-Some.values.now 256 even few
          c.are_samples.ensures c.are_samples-in-Some.ensures,
    )
