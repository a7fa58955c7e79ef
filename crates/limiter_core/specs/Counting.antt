-- The counters that represent all samples: one run and one flag for each side.
use Rattle.std.specs.Prelude.{ℕ, ◌+◌, ◌-◌, ◌^◌, min, Bool, false, not, ◌&&◌, ◌||◌, nat_le, if◌then◌else◌, List}
use Rattle.limiter_core.specs.declared.count.Count.{Count}
use Rattle.limiter_core.specs.Rows.{Row, Side, run, has_fired}

-- the longest run that is counted: as many samples, ten a second, as the longest duration needs
abbrev pub cap : ℕ
cap = 42949672950

-- the counter and the flag of the rows
unfoldable pub count_of : Side → List Row → Count
count_of side rows = record { run = min (run side rows) cap; fired = has_fired side rows }

-- the count of an empty run
abbrev pub no_run : Count
no_run = record { run = 0; fired = false }

-- the count after one more sample
abbrev pub count_after : Bool → ℕ → Count → Count
count_after past need count =
    if past
    then record {
      run = min (count.run + 1) cap;
      fired = count.fired || nat_le need (min (count.run + 1) cap);
    }
    else no_run

-- whether one more sample fires
abbrev pub fires_at : Bool → ℕ → Count → Bool
fires_at past need count = past && (nat_le need (min (count.run + 1) cap) && not count.fired)

-- the number of further samples past the threshold that do not fire, or the greatest u64 if the run
-- has fired
abbrev pub quiet_before : ℕ → Count → ℕ
quiet_before need count = if count.fired then 2 ^ 64 - 1 else need - 1 - count.run

-- the count after n samples that are past the threshold and do not fire
abbrev pub count_after_run : ℕ → Count → Count
count_after_run n count = record { run = min (count.run + n) cap; fired = count.fired }
