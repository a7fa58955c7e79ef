-- When a limiter fires (IEC 62056-6-2, class 71, min_over_threshold_duration and
-- min_under_threshold_duration): rules over the list of all its samples. That an entry into
-- Connected ends a run is a rule of this meter.
use Rattle.std.specs.Prelude.{ℕ, zero, suc, Bool, false, not, ◌&&◌, ◌||◌, List, [], ◌∷◌, drop, nat_lt, nat_le, if◌then◌else◌}
use Rattle.std.specs.List.{prefix_len}
use Rattle.limiter_core.specs.declared.kinds.Fire.{Fire}
use Rattle.limiter_core.specs.declared.kinds.Fire.TheVariants.{Quiet, Over, Under}

-- a sample, with the threshold and the needs of its time, or an entry into Connected; lists of rows
-- have the newest first
pub data Row : Type 0 where
  Sample : (value threshold need_over need_under : ℕ) → Row
  Entry : Row

-- over or under the threshold
pub data Side : Type 0 where
  OverThreshold : Side
  UnderThreshold : Side

-- whether a row is a sample past its threshold, on this side
abbrev pub is_past : Side → Row → Bool
is_past _ Entry = false
is_past OverThreshold (Sample value threshold need_over need_under) = nat_lt threshold value
is_past UnderThreshold (Sample value threshold need_over need_under) = nat_lt value threshold

-- the number of samples that a run must have to fire
abbrev pub need : Side → Row → ℕ
need _ Entry = 0
need OverThreshold (Sample value threshold need_over need_under) = need_over
need UnderThreshold (Sample value threshold need_over need_under) = need_under

-- the length of the run: how many of the newest rows, without a gap, are samples past their
-- thresholds
unfoldable pub run : Side → List Row → ℕ
run side rows = prefix_len (is_past side) rows

-- whether the newest row is in a run at least as long as that row's need
unfoldable pub reaches : Side → List Row → Bool
reaches side [] = false
reaches side (row ∷ rows) =
    nat_lt 0 (run side (row ∷ rows)) && nat_le (need side row) (run side (row ∷ rows))

-- whether some number below n passes the test
unfoldable pub any_below : (ℕ → Bool) → ℕ → Bool
any_below p zero = false
any_below p (suc n) = p 0 || any_below (λ k. p (suc k)) n

-- whether a row of the run that ends with the newest row reached its need
unfoldable pub has_fired : Side → List Row → Bool
has_fired side rows = any_below (λ k. reaches side (drop k rows)) (run side rows)

-- whether the newest row fires: a run fires once, at its first row that reaches the need
unfoldable pub fires : Side → List Row → Bool
fires side rows = reaches side rows && not (has_fired side (drop 1 rows))

-- what the newest row fires
unfoldable pub fire_of : List Row → Fire
fire_of rows = if fires OverThreshold rows then Over else if fires UnderThreshold rows then Under
    else Quiet

-- what a firing on a side is
abbrev pub fire_past : Side → Fire
fire_past OverThreshold = Over
fire_past UnderThreshold = Under
