-- A setting decoded from a value is in range if the value's numbers are in the ranges of their
-- types.
use Rattle.std.proofs.Common.{◌≡◌, Some, IfSome, IfOk, Result, Ok, Err, refl}
use Rattle.wire_bytes.specs.Outcome.{◌>>=◌}
use Rattle.wire_bytes.proofs.OutcomeLemmas.{done}
use Rattle.cosem_axdr.specs.declared.value.Data.{Data}
use Rattle.limiter_attributes.proofs.Again.{number_small}
use Rattle.limiter_attributes.specs.Reading.{number_of, profile_of, actions_of, setting_of}
use Rattle.limiter_attributes.specs.declared.attribute.LimiterAttribute.{LimiterAttribute}
use Rattle.limiter_attributes.specs.declared.attribute.LimiterAttribute.TheVariants as attribute
use Rattle.cosem_names.specs.declared.write_fault.WriteFault.{WriteFault}
use Rattle.limiter_attributes.specs.declared.setting.Setting.{Setting}
use Rattle.limiter_attributes.specs.declared.setting.Setting.TheVariants as setting
use Rattle.relay_core.specs.Agreeing.{IsSettingInRange, IsValue}
use Rattle.script_steps.proofs.InRange.{table_in_range}
use Rattle.script_steps.specs.Reading.{table_of}

-- what holds for each value that decoding can return holds for the one it returned
if_read : {A F : Type 0} (P : A → Type 0) (read : Result A F) → ((x : A) → read ≡ Ok x → P x)
    → IfOk read P
if_read P (Ok x) each = each x refl
if_read P (Err fault) each = tt

-- the setting that a decoded value makes
set_by : {A : Type 0} (read : Result A WriteFault) (make : A → Setting)
    → ((x : A) → read ≡ Ok x → IsSettingInRange (make x))
    → IfOk (read >>= λ x. done WriteFault (Some (make x))) (λ set. IfSome set IsSettingInRange)
set_by (Ok x) make each = each x refl
set_by (Err fault) make each = tt

setting_in_range : (value : Data) (a : LimiterAttribute)
    → IfOk (setting_of a value) (λ set. IfSome set IsSettingInRange)
unfolding setting_of
setting_in_range value attribute.MonitoredValue = tt
setting_in_range value attribute.ThresholdActive = tt
setting_in_range value attribute.ThresholdNormal =
    set_by (number_of value) (λ n. setting.ThresholdNormal n) (λ n e. tt)
setting_in_range value attribute.ThresholdEmergency =
    set_by (number_of value) (λ n. setting.ThresholdEmergency n) (λ n e. tt)
setting_in_range value attribute.MinOverThresholdDuration = set_by (number_of value)
    (λ n. setting.MinOverThresholdDuration n) (λ n e. number_small value n e)
setting_in_range value attribute.MinUnderThresholdDuration = set_by (number_of value)
    (λ n. setting.MinUnderThresholdDuration n) (λ n e. number_small value n e)
setting_in_range value attribute.EmergencyProfile =
    set_by (profile_of value) (λ p. setting.Profile p) (λ p e. tt)
setting_in_range value attribute.EmergencyProfileGroupIdList = tt
setting_in_range value attribute.EmergencyProfileActive = tt
setting_in_range value attribute.Actions = set_by (actions_of value)
    (λ a. setting.Actions a) (λ a e. tt)

pub value_in_range : (value : Data) → IsValue value
value_in_range value = record {
  scripts = if_read _ (table_of value) (λ scripts e. table_in_range value scripts e);
  setting = λ a. setting_in_range value a;
}
