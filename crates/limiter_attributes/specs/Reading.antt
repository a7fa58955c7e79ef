-- What a client writes to an attribute of a limiter (IEC 62056-6-2, class 71), or why it is
-- refused. A wrong type anywhere is reported before any wrong value: that order is a rule of this
-- meter.
use Rattle.std.specs.Prelude.{ℕ, ◌^◌, Bool, ◌&&◌, nat_lt, nat_le, List, length, Option, Some, None, is_some, ok_or, Result, Ok}
use Rattle.std.specs.List.{list_all, filter_map}
use Rattle.std.specs.Result.{result_ok}
use Rattle.wire_bytes.specs.Outcome.{◌>>=◌, ◌>>◌, guard}
use Rattle.cosem_axdr.specs.declared.value.Data.{Data}
use Rattle.cosem_axdr.specs.Forms.{array_of, double_long_unsigned_of, long_unsigned_of}
use Rattle.cosem_datetime.specs.Reading.{date_time_of}
use Rattle.limiter_core.specs.declared.settings.Actions.{Actions}
use Rattle.limiter_core.specs.declared.settings.Profile.{Profile}
use Rattle.limiter_attributes.specs.Forms.{profile_parts_of, scripts_of}
use Rattle.limiter_attributes.specs.declared.attribute.LimiterAttribute.{LimiterAttribute}
use Rattle.limiter_attributes.specs.declared.attribute.LimiterAttribute.TheVariants as attribute
use Rattle.cosem_names.specs.declared.write_fault.WriteFault.{WriteFault}
use Rattle.cosem_names.specs.declared.write_fault.WriteFault.TheVariants.{Unmatched, Value}
use Rattle.cosem_names.specs.Scripts.{is_of_the_table}
use Rattle.limiter_attributes.specs.declared.setting.Setting.{Setting}
use Rattle.limiter_attributes.specs.declared.setting.Setting.TheVariants as setting

-- a threshold in watts or a duration in seconds: a double-long-unsigned, which is a number of 32
-- bits
unfoldable pub number_of : Data → Result ℕ WriteFault
number_of value = do
  number ← ok_or (double_long_unsigned_of value) Unmatched
  guard (nat_lt number (2 ^ 32)) Unmatched
  Ok number

-- an emergency profile, whose start is a date-time with each field in its range
unfoldable pub profile_of : Data → Result Profile WriteFault
profile_of value = do
  parts ← ok_or (profile_parts_of value) Unmatched
  start ← ok_or (result_ok (date_time_of parts.1)) Value
  Ok (record { id = parts.0; start = start; duration = parts.2 })

-- actions: two selectors in the script table
unfoldable pub actions_of : Data → Result Actions WriteFault
actions_of value = do
  scripts ← ok_or (scripts_of value) Unmatched
  guard (is_of_the_table scripts.0 && is_of_the_table scripts.1) Value
  Ok (record { over = scripts.0.selector; under = scripts.1.selector })

-- what a write of an attribute sets: nothing for attributes that are not written, and for the group
-- ids
unfoldable pub setting_of : LimiterAttribute → Data → Result (Option Setting) WriteFault
setting_of attribute.MonitoredValue value = Ok None
setting_of attribute.ThresholdActive value = Ok None
setting_of attribute.ThresholdNormal value =
    number_of value >>= λ watts. Ok (Some (setting.ThresholdNormal watts))
setting_of attribute.ThresholdEmergency value =
    number_of value >>= λ watts. Ok (Some (setting.ThresholdEmergency watts))
setting_of attribute.MinOverThresholdDuration value =
    number_of value >>= λ seconds. Ok (Some (setting.MinOverThresholdDuration seconds))
setting_of attribute.MinUnderThresholdDuration value =
    number_of value >>= λ seconds. Ok (Some (setting.MinUnderThresholdDuration seconds))
setting_of attribute.EmergencyProfile value =
    profile_of value >>= λ profile. Ok (Some (setting.Profile profile))
setting_of attribute.EmergencyProfileGroupIdList value = Ok None
setting_of attribute.EmergencyProfileActive value = Ok None
setting_of attribute.Actions value =
    actions_of value >>= λ actions. Ok (Some (setting.Actions actions))

-- whether each item is a long-unsigned
abbrev pub are_ids : List Data → Bool
are_ids items = list_all (λ item. is_some (long_unsigned_of item)) items

-- the maximum number of group ids that a limiter has
abbrev pub max_groups : ℕ
max_groups = 32

-- the fault of the items of a group id list
unfoldable pub judged_groups : List Data → Result (Unit {0}) WriteFault
judged_groups items = do
  guard (are_ids items) Unmatched
  guard (nat_le (length items) max_groups) Value

-- a group id list
unfoldable pub groups_of : Data → Result (List ℕ) WriteFault
groups_of value = do
  items ← ok_or (array_of value) Unmatched
  judged_groups items
  Ok (filter_map long_unsigned_of items)
