-- Runs that are restored without their samples, and samples that give these runs.
use Rattle.std.specs.Prelude.{ℕ, ◌+◌, ◌-◌, ◌==◌, if◌then◌else◌, List, replicate}
use Rattle.limiter_core.specs.declared.count.Count.{Count}
use Rattle.limiter_core.specs.Counting.{cap}
use Rattle.limiter_core.specs.Rows.{Row, Sample}

-- a need that a restored run has reached if it has fired, and otherwise has not
abbrev pub opened_need : Count → ℕ
opened_need count = if count.fired then 1 else cap

-- a sample of this value that is one over its threshold
abbrev pub one_over : ℕ → Count → Row
one_over value count = Sample value (value - 1) (opened_need count) (opened_need count)

-- a sample of this value that is one under its threshold
abbrev pub one_under : ℕ → Count → Row
one_under value count = Sample value (value + 1) (opened_need count) (opened_need count)

-- samples that give the restored runs: the last value, repeated as often as the run that is not
-- empty is long; no sample if both runs are empty
unfoldable pub opened_rows : ℕ → Count → Count → List Row
opened_rows last over under =
    if over.run == 0 then replicate under.run (one_under last under)
    else replicate over.run (one_over last over)
