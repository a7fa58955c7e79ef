-- The values of a limiter's attributes when read (IEC 62056-6-2, class 71).
use Rattle.std.specs.Prelude.{ℕ, pos, List, [], ◌∷◌, map, Option}
use Rattle.cosem_axdr.specs.declared.value.Data.{Data}
use Rattle.cosem_axdr.specs.declared.value.Data.TheVariants.{OctetString, Boolean, DoubleLongUnsigned, LongUnsigned, Integer}
use Rattle.cosem_datetime.specs.Fields.{date_time_bytes}
use Rattle.cosem_names.specs.Forms.{array_with, structure_with}
use Rattle.cosem_names.specs.Scripts.{script_at, script_data}
use Rattle.cosem_names.specs.Table.{obis}
use Rattle.cosem_names.specs.declared.name.Obis.{Obis}
use Rattle.cosem_names.specs.declared.objects.Which.{Which}
use Rattle.cosem_names.specs.declared.objects.Which.TheVariants.{Import, Export}
use Rattle.limiter_core.specs.Settings.{is_active, active_threshold}
use Rattle.limiter_core.specs.declared.settings.Actions.{Actions}
use Rattle.limiter_core.specs.declared.settings.Profile.{Profile}
use Rattle.limiter_core.specs.declared.settings.Settings.{Settings}
use Rattle.limiter_attributes.specs.declared.attribute.LimiterAttribute.{LimiterAttribute}
use Rattle.limiter_attributes.specs.declared.attribute.LimiterAttribute.TheVariants as attribute

-- the logical name of the register whose value is monitored
abbrev pub register_name : Which → Obis
register_name Import = obis 1 0 1 7 0 255
register_name Export = obis 1 0 2 7 0 255

-- the value of monitored_value: class 3, the logical name and attribute 2 of the monitored register
unfoldable pub monitored_data : Which → Data
monitored_data which =
    structure_with (LongUnsigned 3 ∷ OctetString (register_name which).0 ∷ Integer (pos 2) ∷ [])

-- the value of emergency_profile: a structure of id, start and duration, with the start as an
-- octet-string
abbrev pub profile_data : Profile → Data
profile_data profile =
    structure_with (LongUnsigned profile.id ∷ OctetString (date_time_bytes profile.start)
    ∷ DoubleLongUnsigned profile.duration ∷ [])

-- the value of emergency_profile_group_id_list: an array of long-unsigned
unfoldable pub groups_data : List ℕ → Data
groups_data ids = array_with (map LongUnsigned ids)

-- the value of actions: a structure of the script over the threshold and the script under it
unfoldable pub actions_data : Actions → Data
actions_data actions =
    structure_with (script_data (script_at actions.over)
    ∷ script_data (script_at actions.under) ∷ [])

-- the value of an attribute of a limiter with these settings at a moment of the clock
unfoldable pub data_at : Which → LimiterAttribute → Settings → Option ℕ → Data
data_at which attribute.MonitoredValue settings moment = monitored_data which
data_at which attribute.ThresholdActive settings moment =
    DoubleLongUnsigned (active_threshold settings moment)
data_at which attribute.ThresholdNormal settings moment =
    DoubleLongUnsigned settings.threshold_normal
data_at which attribute.ThresholdEmergency settings moment =
    DoubleLongUnsigned settings.threshold_emergency
data_at which attribute.MinOverThresholdDuration settings moment =
    DoubleLongUnsigned settings.min_over_threshold_duration
data_at which attribute.MinUnderThresholdDuration settings moment =
    DoubleLongUnsigned settings.min_under_threshold_duration
data_at which attribute.EmergencyProfile settings moment = profile_data settings.profile
data_at which attribute.EmergencyProfileGroupIdList settings moment = groups_data settings.groups
data_at which attribute.EmergencyProfileActive settings moment = Boolean (is_active settings moment)
data_at which attribute.Actions settings moment = actions_data settings.actions
