-- The rules of a limiter's settings (IEC 62056-6-2, class 71): the active threshold, the emergency
-- profile and the needs. That the end of the profile's time is excluded, and that a second has ten
-- samples, are rules of this meter.
use Rattle.std.specs.Prelude.{ℕ, ◌+◌, ◌*◌, max, Bool, false, ◌&&◌, nat_lt, nat_le, ◌==◌, if◌then◌else◌, Option, Some, List, []}
use Rattle.std.specs.List.{list_any}
use Rattle.cosem_datetime.specs.Fields.{unspecified_date_time}
use Rattle.cosem_datetime.specs.Moment.{moment_of}
use Rattle.limiter_core.specs.declared.kinds.Kind.{Kind}
use Rattle.limiter_core.specs.declared.kinds.Kind.TheVariants.{Over, Under, Equal}
use Rattle.limiter_core.specs.declared.settings.Settings.{Settings}
use Rattle.limiter_core.specs.Rows.{Row, Sample}

-- whether now is from start to start + duration, the end excluded
abbrev pub is_within : Option ℕ → Option ℕ → ℕ → Bool
is_within (Some now) (Some start) duration = nat_le start now && nat_lt now (start + duration)
is_within _ _ _ = false

-- whether an id is in a list of ids
abbrev pub is_among : ℕ → List ℕ → Bool
is_among id ids = list_any (λ i. i == id) ids

-- whether the emergency profile is active: its group is among the limiter's, and the clock's last
-- moment is in its time
unfoldable pub is_active : Settings → Option ℕ → Bool
is_active s moment =
    is_among s.profile.id s.groups && is_within moment (moment_of s.profile.start)
    s.profile.duration

-- the value of threshold_active: threshold_emergency while the emergency profile is active,
-- otherwise threshold_normal
unfoldable pub active_threshold : Settings → Option ℕ → ℕ
active_threshold s moment = if is_active s moment then s.threshold_emergency else s.threshold_normal

-- the number of samples that a duration in seconds needs, at ten a second and at least one
abbrev pub need_of : ℕ → ℕ
need_of duration = max 1 (10 * duration)

-- the limits that judge a sample: a threshold, and the number of samples that a run over it and a
-- run under it must have
pub record Limits : Type 0 where
  pub threshold : ℕ
  pub need_over : ℕ
  pub need_under : ℕ

-- the limits that these settings give at a moment of the clock
abbrev pub limits_at : Settings → Option ℕ → Limits
limits_at s moment = record {
  threshold = active_threshold s moment;
  need_over = need_of s.min_over_threshold_duration;
  need_under = need_of s.min_under_threshold_duration;
}

-- the row of a sample under these limits
abbrev pub row_of : Limits → ℕ → Row
row_of limits value = Sample value limits.threshold limits.need_over limits.need_under

-- the side of the threshold on which a value is
abbrev pub kind_of : ℕ → ℕ → Kind
kind_of threshold value = if nat_lt threshold value then Over else if nat_lt value threshold
    then Under else Equal

-- the settings of a new limiter
abbrev pub new_settings : Settings
new_settings = record {
  threshold_normal = 4294967295;
  threshold_emergency = 4294967295;
  min_over_threshold_duration = 0;
  min_under_threshold_duration = 0;
  profile = record { id = 0; start = unspecified_date_time; duration = 0 };
  groups = [];
  actions = record { over = 0; under = 0 };
}
