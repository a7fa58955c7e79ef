-- The counters after one more row.
use Rattle.std.proofs.Common.{◌≡◌, ℕ, suc, ◌+◌, ◌≤◌, min, Bool, true, false, not, ◌&&◌, ◌||◌, cond, nat_lt, nat_le, if◌then◌else◌, List, [], ◌∷◌, drop, refl, ◌∙◌, ap, arith}
use Rattle.std.proofs.lemmas.Bool.Decides.{nat_tests}
use Rattle.limiter_core.specs.declared.count.Count.{Count}
use Rattle.limiter_core.specs.declared.kinds.Fire.TheVariants.{Quiet, Over, Under}
use Rattle.limiter_core.specs.Rows.{Row, Entry, Side, OverThreshold, UnderThreshold, is_past, need, run, reaches, any_below, has_fired, fires, fire_of}
use Rattle.limiter_core.specs.Counting.{cap, count_of, no_run, count_after, fires_at}

-- counts with equal runs and flags are equal
pub same_count : (a b : Count) → a.run ≡ b.run → a.fired ≡ b.fired → a ≡ b
same_count a b r f =
    let with_run : ℕ → Count = λ n. record { run = n; fired = a.fired } in
    let with_fired : Bool → Count = λ v. record { run = b.run; fired = v } in
    ap with_run r ∙ ap with_fired f

one_more : (n : ℕ) → 1 + n ≡ suc n
one_more n = omega arith

pub run_past : (side : Side) (row : Row) (rows : List Row) → is_past side row ≡ true
    → run side (row ∷ rows) ≡ suc (run side rows)
unfolding run
run_past side row rows e = ap (λ b. cond b (1 + run side rows) 0) e ∙ one_more (run side rows)

pub run_other : (side : Side) (row : Row) (rows : List Row) → is_past side row ≡ false
    → run side (row ∷ rows) ≡ 0
unfolding run
run_other side row rows e = ap (λ b. cond b (1 + run side rows) 0) e

long_enough : (n r : ℕ) → (nat_lt 0 (suc r) && nat_le n (suc r)) ≡ nat_le n (suc r)
long_enough n r = grind (arith, nat_tests)

pub reaches_past : (side : Side) (row : Row) (rows : List Row) → is_past side row ≡ true
    → reaches side (row ∷ rows) ≡ nat_le (need side row) (suc (run side rows))
unfolding reaches
reaches_past side row rows e =
    ap (λ r. nat_lt 0 r && nat_le (need side row) r) (run_past side row rows e)
    ∙ long_enough (need side row) (run side rows)

reaches_other : (side : Side) (row : Row) (rows : List Row) → is_past side row ≡ false
    → reaches side (row ∷ rows) ≡ false
unfolding reaches
reaches_other side row rows e = ap (λ r. nat_lt 0 r && nat_le (need side row) r)
    (run_other side row rows e)

pub has_fired_past : (side : Side) (row : Row) (rows : List Row) → is_past side row ≡ true
    → has_fired side (row ∷ rows) ≡ (reaches side (row ∷ rows) || has_fired side rows)
unfolding has_fired any_below
has_fired_past side row rows e = ap (any_below (λ k. reaches side (drop k (row ∷ rows))))
    (run_past side row rows e)

has_fired_other : (side : Side) (row : Row) (rows : List Row) → is_past side row ≡ false
    → has_fired side (row ∷ rows) ≡ false
unfolding has_fired any_below
has_fired_other side row rows e = ap (any_below (λ k. reaches side (drop k (row ∷ rows))))
    (run_other side row rows e)

more_capped : (r : ℕ) → min (suc r) cap ≡ min (min r cap + 1) cap
more_capped r = omega arith

need_capped : (n r : ℕ) → n ≤ cap → nat_le n (suc r) ≡ nat_le n (min (min r cap + 1) cap)
need_capped n r h = grind (arith, nat_tests)

or_swap : (a b : Bool) → (a || b) ≡ (b || a)
or_swap true true = refl
or_swap true false = refl
or_swap false true = refl
or_swap false false = refl

reaches_capped : (side : Side) (row : Row) (rows : List Row) → is_past side row ≡ true
    → need side row ≤ cap → reaches side (row ∷ rows)
    ≡ nat_le (need side row) (min (min (run side rows) cap + 1) cap)
reaches_capped side row rows e h = reaches_past side row rows e
    ∙ need_capped (need side row) (run side rows) h

pub counted_by : (b : Bool) (side : Side) (row : Row) (rows : List Row) → is_past side row ≡ b
    → (is_past side row ≡ true → need side row ≤ cap) → count_of side (row ∷ rows)
    ≡ count_after b (need side row) (count_of side rows)
unfolding count_of
counted_by true side row rows e h =
    same_count (count_of side (row ∷ rows)) (count_after true (need side row) (count_of side rows))
    (ap (λ r. min r cap) (run_past side row rows e) ∙ more_capped (run side rows))
    (has_fired_past side row rows e
    ∙ ap (λ b. b || has_fired side rows) (reaches_capped side row rows e (h e))
    ∙ or_swap (nat_le (need side row) (min (min (run side rows) cap + 1) cap))
    (has_fired side rows))
counted_by false side row rows e h =
    same_count (count_of side (row ∷ rows)) no_run
    (ap (λ r. min r cap) (run_other side row rows e))
    (has_fired_other side row rows e)

-- one more row is one more count
pub counted : (side : Side) (row : Row) (rows : List Row)
    → (is_past side row ≡ true → need side row ≤ cap) → count_of side (row ∷ rows)
    ≡ count_after (is_past side row) (need side row) (count_of side rows)
counted side row rows h = counted_by (is_past side row) side row rows refl h

fires_by : (b : Bool) (side : Side) (row : Row) (rows : List Row) → is_past side row ≡ b
    → (is_past side row ≡ true → need side row ≤ cap) → fires side (row ∷ rows)
    ≡ fires_at b (need side row) (count_of side rows)
unfolding count_of fires
fires_by true side row rows e h = ap (λ b. b && not (has_fired side rows))
    (reaches_capped side row rows e (h e))
fires_by false side row rows e h = ap (λ b. b && not (has_fired side rows))
    (reaches_other side row rows e)

-- a row that is not past its threshold does not fire
pub fires_other : (side : Side) (row : Row) (rows : List Row) → is_past side row ≡ false
    → fires side (row ∷ rows) ≡ false
unfolding fires
fires_other side row rows e = ap (λ b. b && not (has_fired side rows))
    (reaches_other side row rows e)

-- a row fires exactly if its count does
pub fires_counted : (side : Side) (row : Row) (rows : List Row)
    → (is_past side row ≡ true → need side row ≤ cap) → fires side (row ∷ rows)
    ≡ fires_at (is_past side row) (need side row) (count_of side rows)
fires_counted side row rows h = fires_by (is_past side row) side row rows refl h

-- what a row fires, by the counts before it
pub fire_counted : (row : Row) (rows : List Row)
    → (is_past OverThreshold row ≡ true → need OverThreshold row ≤ cap)
    → (is_past UnderThreshold row ≡ true → need UnderThreshold row ≤ cap) →
    fire_of (row ∷ rows) ≡ (if fires_at (is_past OverThreshold row) (need OverThreshold row)
    (count_of OverThreshold rows) then Over
    else if fires_at (is_past UnderThreshold row) (need UnderThreshold row)
    (count_of UnderThreshold rows) then Under else Quiet)
unfolding fire_of
fire_counted row rows over under =
    ap (λ b. if b then Over else if fires UnderThreshold (row ∷ rows) then Under else Quiet)
    (fires_counted OverThreshold row rows over)
    ∙ ap (λ b. if fires_at (is_past OverThreshold row) (need OverThreshold row)
    (count_of OverThreshold rows) then Over else if b then Under else Quiet)
    (fires_counted UnderThreshold row rows under)

-- before the first row, and at an entry into Connected, both runs are empty
pub count_of_none : (side : Side) → count_of side [] ≡ no_run
unfolding count_of run has_fired any_below
count_of_none side = refl

pub count_of_entry : (side : Side) (rows : List Row) → count_of side (Entry ∷ rows) ≡ no_run
unfolding count_of run has_fired any_below
count_of_entry OverThreshold rows = refl
count_of_entry UnderThreshold rows = refl
