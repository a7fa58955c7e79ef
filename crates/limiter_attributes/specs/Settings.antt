-- A limiter's settings, by the attributes that set them (IEC 62056-6-2, class 71).
use Rattle.std.specs.Prelude.{ℕ, List, Option, Some, None}
use Rattle.limiter_core.specs.Counting.{no_run}
use Rattle.limiter_core.specs.Settings.{new_settings}
use Rattle.limiter_core.specs.State.{State}
use Rattle.limiter_core.specs.declared.settings.Settings.{Settings}
use Rattle.limiter_attributes.specs.declared.attribute.LimiterAttribute.{LimiterAttribute}
use Rattle.limiter_attributes.specs.declared.attribute.LimiterAttribute.TheVariants as attribute
use Rattle.limiter_attributes.specs.declared.setting.Setting.{Setting}
use Rattle.limiter_attributes.specs.declared.setting.Setting.TheVariants.{ThresholdNormal, ThresholdEmergency, MinOverThresholdDuration, MinUnderThresholdDuration, Profile, Actions}

-- the settings after one of them was set
abbrev pub with_setting : Setting → Settings → Settings
with_setting (ThresholdNormal watts) settings = record settings { threshold_normal = watts }
with_setting (ThresholdEmergency watts) settings = record settings { threshold_emergency = watts }
with_setting (MinOverThresholdDuration seconds) settings =
    record settings { min_over_threshold_duration = seconds }
with_setting (MinUnderThresholdDuration seconds) settings =
    record settings { min_under_threshold_duration = seconds }
with_setting (Profile profile) settings = record settings { profile = profile }
with_setting (Actions actions) settings = record settings { actions = actions }

-- the present value of an attribute as a setting; nothing for the attributes that clients cannot
-- write, and for the group ids, which are not in `Setting`
abbrev pub setting_at : LimiterAttribute → Settings → Option Setting
setting_at attribute.MonitoredValue settings = None
setting_at attribute.ThresholdActive settings = None
setting_at attribute.ThresholdNormal settings = Some (ThresholdNormal settings.threshold_normal)
setting_at attribute.ThresholdEmergency settings =
    Some (ThresholdEmergency settings.threshold_emergency)
setting_at attribute.MinOverThresholdDuration settings =
    Some (MinOverThresholdDuration settings.min_over_threshold_duration)
setting_at attribute.MinUnderThresholdDuration settings =
    Some (MinUnderThresholdDuration settings.min_under_threshold_duration)
setting_at attribute.EmergencyProfile settings = Some (Profile settings.profile)
setting_at attribute.EmergencyProfileGroupIdList settings = None
setting_at attribute.EmergencyProfileActive settings = None
setting_at attribute.Actions settings = Some (Actions settings.actions)

-- a new limiter with these group ids
abbrev pub limiter_with_groups : List ℕ → State
limiter_with_groups ids =
    record {
      settings = record new_settings { groups = ids };
      moment = None;
      last = 0;
      over = no_run;
      under = no_run;
    }
