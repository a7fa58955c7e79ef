-- A limiter as its callers see it, and the rows that it represents.
use Rattle.std.specs.Prelude.{◌≡◌, ℕ, ◌-◌, ◌<◌, ◌≤◌, ◌^◌, Bool, true, false, not, ◌&&◌, ◌||◌, ◌==◌, nat_lt, if◌then◌else◌, List, [], ◌∷◌, length, Option}
use Rattle.limiter_core.specs.declared.kinds.Fire.{Fire}
use Rattle.limiter_core.specs.declared.kinds.Fire.TheVariants.{Quiet}
use Rattle.limiter_core.specs.declared.kinds.Kind.{Kind}
use Rattle.limiter_core.specs.declared.kinds.Kind.TheVariants.{Over, Under, Equal}
use Rattle.limiter_core.specs.declared.count.Count.{Count}
use Rattle.limiter_core.specs.declared.settings.Settings.{Settings}
use Rattle.limiter_core.specs.Counting.{cap, count_of, no_run, quiet_before, count_after_run}
use Rattle.limiter_core.specs.Rows.{Row, OverThreshold, UnderThreshold, fire_of, fire_past}
use Rattle.limiter_core.specs.Settings.{Limits, limits_at, row_of, need_of, kind_of}

-- the settings, the last moment of the clock, the last sample and the two counts
pub record State : Type 0 where
  pub settings : Settings
  pub moment : Option ℕ
  pub last : ℕ
  pub over : Count
  pub under : Count

-- the limits that judge the next sample of a limiter
abbrev pub limits_of : State → Limits
limits_of state = limits_at state.settings state.moment

-- whether the counts are those of the rows
pub record CountsRows (state : State) (rows : List Row) : Type 0 where
  pub over : state.over ≡ count_of OverThreshold rows
  pub under : state.under ≡ count_of UnderThreshold rows

-- whether samples can give this count: its run is at most the cap, an empty run has not fired, and
-- a run at the cap has
pub record IsFitCount (count : Count) : Type 0 where
  pub within : count.run ≤ cap
  pub none : count.run ≡ 0 → count.fired ≡ false
  pub full : count.run ≡ cap → count.fired ≡ true

-- whether samples that end with `last` can give both counts: at most one run is not empty, and some
-- threshold is under the last value (for a run over it) or over it (for a run under it)
pub record IsFit (last : ℕ) (over under : Count) : Type 0 where
  pub over_fits : IsFitCount over
  pub under_fits : IsFitCount under
  pub one : 0 < over.run → under.run ≡ 0
  pub above : 0 < over.run → 0 < last
  pub below : 0 < under.run → last < 4294967295

-- whether a count is fit: the test that decides `IsFitCount`
abbrev pub is_fit_count : Count → Bool
is_fit_count count = if count.run == 0 then not count.fired else if count.run == cap
    then count.fired else nat_lt count.run cap

-- whether samples that end with a value can give both counts: the test that decides `IsFit`
unfoldable pub are_fit : ℕ → Count → Count → Bool
are_fit last over under =
    is_fit_count over && is_fit_count under && (over.run == 0 || (under.run == 0 && nat_lt 0 last))
    && (under.run == 0 || nat_lt last 4294967295)

-- Whether the counts of a limiter are fit, its thresholds and durations have 32 bits, and it has at
-- most 32 group ids. This holds of every limiter.
pub record IsLimiter (state : State) : Type 0 where
  pub counts : IsFit state.last state.over state.under
  pub threshold_normal : state.settings.threshold_normal < 2 ^ 32
  pub threshold_emergency : state.settings.threshold_emergency < 2 ^ 32
  pub over_duration : state.settings.min_over_threshold_duration < 2 ^ 32
  pub under_duration : state.settings.min_under_threshold_duration < 2 ^ 32
  pub groups : length state.settings.groups ≤ 32

-- the rows after more samples under the same limits, of which the first is the oldest
abbrev pub rows_after : Limits → List ℕ → List Row → List Row
rows_after limits [] rows = rows
rows_after limits (value ∷ values) rows = rows_after limits values (row_of limits value ∷ rows)

-- whether no sample fires
abbrev pub IsQuiet : Limits → List ℕ → List Row → Type 0
IsQuiet limits [] rows = Unit {0}
IsQuiet limits (value ∷ values) rows =
    (fire_of (row_of limits value ∷ rows) ≡ Quiet)
    × IsQuiet limits values (row_of limits value ∷ rows)

-- whether every value is on that side of the threshold
abbrev pub AreOfKind : Kind → ℕ → List ℕ → Type 0
AreOfKind kind threshold [] = Unit {0}
AreOfKind kind threshold (value ∷ values) = (kind_of threshold value ≡ kind)
    × AreOfKind kind threshold values

-- the number of further samples of a kind that do not fire, or the greatest u64 if none would ever
-- fire
abbrev pub quiet_count : Kind → State → ℕ
quiet_count Over state = quiet_before (need_of state.settings.min_over_threshold_duration)
    state.over
quiet_count Under state = quiet_before (need_of state.settings.min_under_threshold_duration)
    state.under
quiet_count Equal state = 2 ^ 64 - 1

-- what samples of that kind fire
abbrev pub fire_on : Kind → Fire
fire_on Over = fire_past OverThreshold
fire_on Under = fire_past UnderThreshold
fire_on Equal = Quiet

-- the limiter after n samples of a kind that do not fire
abbrev pub state_after_run : Kind → ℕ → ℕ → State → State
state_after_run Over n last state = record state {
  last = last;
  over = count_after_run n state.over;
  under = no_run;
}
state_after_run Under n last state =
    record state { last = last; over = no_run; under = count_after_run n state.under }
state_after_run Equal n last state = record state { last = last; over = no_run; under = no_run }
