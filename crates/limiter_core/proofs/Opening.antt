-- The rows of a restored limiter have its counts.
use Rattle.std.proofs.Common.{◌≡◌, ℕ, suc, zero, ◌+◌, ◌-◌, ◌<◌, ◌≤◌, min, Bool, true, false, ◌||◌, ◌==◌, nat_lt, nat_le, if◌then◌else◌, [], replicate, refl, sym, ◌∙◌, ap, subst, arith}
use Rattle.std.proofs.lemmas.Bool.Decides.{nat_tests}
use Rattle.std.proofs.lemmas.List.Folds.{prefix_len-replicate}
use Rattle.limiter_core.specs.declared.count.Count.{Count}
use Rattle.limiter_core.specs.Rows.{Row, Side, OverThreshold, UnderThreshold, is_past, need, run, any_below, has_fired}
use Rattle.limiter_core.specs.Counting.{cap, count_of, no_run}
use Rattle.limiter_core.specs.State.{State, CountsRows, IsFit, IsFitCount}
use Rattle.limiter_core.specs.Opening.{opened_need, one_over, one_under, opened_rows}
use Rattle.limiter_core.proofs.Firing.{same_count, counted_by, count_of_none, has_fired_past, reaches_past}

run_repeated : (side : Side) (row : Row) (n : ℕ) → is_past side row ≡ true
    → run side (replicate n row) ≡ n
unfolding run
run_repeated side row n e = prefix_len-replicate (is_past side) n row e

none_reached : (need : ℕ) → 0 < need → false ≡ nat_le need 0
none_reached need some = grind (arith, nat_tests)

none_fired : (side : Side) → has_fired side [] ≡ false
unfolding has_fired run any_below
none_fired side = refl

reached_before : (need n : ℕ) → (nat_le need (suc n) || nat_le need n) ≡ nat_le need (suc n)
reached_before need n = grind (arith, nat_tests)

fired_repeated : (side : Side) (row : Row) (n : ℕ) → is_past side row ≡ true → 0 < need side row
    → has_fired side (replicate n row) ≡ nat_le (need side row) n
fired_repeated side row zero e some = none_fired side ∙ none_reached (need side row) some
fired_repeated side row (suc n) e some =
    has_fired_past side row (replicate n row) e
    ∙ (ap (λ b. b || has_fired side (replicate n row)) (reaches_past side row (replicate n row) e
    ∙ ap (λ r. nat_le (need side row) (suc r)) (run_repeated side row n e))
    ∙ (ap (λ b. nat_le (need side row) (suc n) || b) (fired_repeated side row n e some)
    ∙ reached_before (need side row) n))

above_zero : (n : ℕ) → (n ≡ 0 → ⊥) → 0 < n
above_zero zero not_zero = absurd (not_zero refl)
above_zero (suc n) not_zero = omega arith

below_cap : (n : ℕ) → n ≤ cap → (n ≡ cap → ⊥) → n < cap
below_cap n within not_cap = omega (arith, not_cap)

capped : (n : ℕ) → n ≤ cap → n ≡ min n cap
capped n within = omega arith

need_some : (b : Bool) → 0 < (if b then 1 else cap)
need_some true = omega arith
need_some false = omega arith

past_one : (v : ℕ) → 0 < v → nat_lt (v - 1) v ≡ true
past_one v some = grind (arith, nat_tests)

not_under_one : (v : ℕ) → nat_lt v (v - 1) ≡ false
not_under_one v = grind (arith, nat_tests)

below_above : (v : ℕ) → nat_lt v (v + 1) ≡ true
below_above v = grind (arith, nat_tests)

above_not_below : (v : ℕ) → nat_lt (v + 1) v ≡ false
above_not_below v = grind (arith, nat_tests)

fired_is : (b : Bool) (count : Count) → count.fired ≡ b → IsFitCount count
    → nat_le (if b then 1 else cap) count.run ≡ b
fired_is true count e fit =
    let none = fit.none in
    let some : 0 < count.run = above_zero count.run (λ zero. cc (none zero)) in
    grind (arith, nat_tests)
fired_is false count e fit =
    let full = fit.full in
    let within = fit.within in
    let less : count.run < cap = below_cap count.run within (λ all. cc (full all)) in
    grind (arith, nat_tests)

-- a fit count is that of a sample past the threshold, repeated as often as the run is long
repeated : (side : Side) (row : Row) (count : Count) → is_past side row ≡ true → need side row
    ≡ opened_need count → IsFitCount count → count ≡ count_of side (replicate count.run row)
unfolding count_of
repeated side row count e n fit =
    let within = fit.within in
    let some : 0 < opened_need count = need_some count.fired in
    same_count count (count_of side (replicate count.run row))
    (capped count.run within ∙ ap (λ r. min r cap) (sym (run_repeated side row count.run e)))
    (sym (fired_repeated side row count.run e (let P : ℕ
    → Type 0 = λ m. 0 < m in subst P (sym n) some)
    ∙ (ap (λ m. nat_le m count.run) n ∙ fired_is count.fired count refl fit)))

-- samples on the other side end a run
ended_by : (side : Side) (row : Row) (n : ℕ) → is_past side row ≡ false
    → count_of side (replicate n row) ≡ no_run
ended_by side row zero e = count_of_none side
ended_by side row (suc n) e = counted_by false side row (replicate n row) e
    (λ past. absurd (let apart : true ≡ false = sym past ∙ e in cc))

no_count : (count : Count) → count.run ≡ 0 → IsFitCount count → count ≡ no_run
no_count count e fit = same_count count no_run e (fit.none e)

opened_if : (b : Bool) (state : State) → (state.over.run == 0) ≡ b
    → IsFit state.last state.over state.under →
    CountsRows state (if b then replicate state.under.run (one_under state.last state.under)
    else replicate state.over.run (one_over state.last state.over))
opened_if true state e fit =
    let zero : state.over.run ≡ 0 = grind (arith, nat_tests) in
    record {
      over = no_count state.over zero fit.over_fits
          ∙ sym (ended_by OverThreshold (one_under state.last state.under) state.under.run
          (above_not_below state.last));
      under = repeated UnderThreshold (one_under state.last state.under) state.under
          (below_above state.last) refl fit.under_fits;
    }
opened_if false state e fit =
    let some : 0 < state.over.run = grind (arith, nat_tests) in
    let last : 0 < state.last = fit.above some in
    record {
      over = repeated OverThreshold (one_over state.last state.over) state.over
          (past_one state.last last) refl fit.over_fits;
      under = no_count state.under (fit.one some) fit.under_fits
          ∙ sym (ended_by UnderThreshold (one_over state.last state.over) state.over.run
          (not_under_one state.last));
    }

-- a limiter with fit counts represents the rows that restore it
pub opened : (state : State) → IsFit state.last state.over state.under
    → CountsRows state (opened_rows state.last state.over state.under)
unfolding opened_rows
opened state fit = opened_if (state.over.run == 0) state refl fit
