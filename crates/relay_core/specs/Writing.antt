-- The effect of a client's write (IEC 62056-5-3, SET; IEC 62056-6-2, classes 9, 22, 70 and 71).
use Rattle.std.specs.Prelude.{ℕ, Bool, Option, Some, None, Result, Ok, Err}
use Rattle.action_schedule.specs.Attributes.{attribute_numbered as schedule_attribute}
use Rattle.action_schedule.specs.declared.attribute.ScheduleAttribute.{ScheduleAttribute}
use Rattle.cosem_axdr.specs.declared.value.Data.{Data}
use Rattle.cosem_names.specs.declared.name.AttrRef.{AttrRef}
use Rattle.cosem_names.specs.declared.level.Level.{Level}
use Rattle.cosem_names.specs.declared.objects.Instance.{Instance}
use Rattle.cosem_names.specs.declared.objects.Instance.TheVariants.{Association, DeviceName, Register, ScriptTable, Schedule, DisconnectControl, Limiter}
use Rattle.cosem_names.specs.declared.objects.ScheduleNumber.{ScheduleNumber}
use Rattle.cosem_names.specs.declared.objects.Which.{Which}
use Rattle.cosem_names.specs.declared.result_code.ResultCode.{ResultCode}
use Rattle.cosem_names.specs.declared.result_code.ResultCode.TheVariants.{Success, ReadWriteDenied}
use Rattle.cosem_names.specs.Objects.{rights_of}
use Rattle.disconnect_control.specs.declared.attribute.ControlAttribute.{ControlAttribute}
use Rattle.disconnect_control.specs.declared.attribute.ControlAttribute.TheVariants as attribute
use Rattle.disconnect_control.specs.declared.state.ControlMode.{ControlMode}
use Rattle.disconnect_control.specs.Attributes.{attribute_numbered as control_attribute, mode_form}
use Rattle.disconnect_control.specs.Control.{with_mode, mode_result}
use Rattle.limiter_attributes.specs.declared.attribute.LimiterAttribute.{LimiterAttribute}
use Rattle.cosem_names.specs.declared.write_fault.WriteFault.{WriteFault}
use Rattle.cosem_names.specs.WriteFault.{fault_code}
use Rattle.limiter_attributes.specs.declared.setting.Setting.{Setting}
use Rattle.limiter_attributes.specs.Attributes.{attribute_numbered}
use Rattle.limiter_attributes.specs.Reading.{setting_of}
use Rattle.limiter_attributes.specs.Settings.{with_setting}
use Rattle.relay_core.specs.Access.{target_of}
use Rattle.relay_core.specs.Limiters.{limiter_state_of, with_limiter_state, with_settings}
use Rattle.relay_core.specs.declared.parts.Parts.{Parts}
use Rattle.relay_core.specs.declared.parts.WrittenList.{WrittenList}
use Rattle.relay_core.specs.Moving.{list_numbered, list_read, with_list}
use Rattle.relay_core.specs.Schedules.{schedule_of, with_schedule, schedule_after_write, schedule_code}
use Rattle.relay_core.specs.World.{World, Outcome}

-- the outcome of a refused write, which changes nothing
abbrev pub outcome_of_refusal : ResultCode → World → Outcome
outcome_of_refusal code w = record { world = w; code = code }

-- the effect of a write of the mode, which is refused in some states of the switch
unfoldable pub at_mode : ControlMode → World → Outcome
at_mode mode w = record {
  world = record w { control = with_mode mode w.control };
  code = mode_result mode w.control;
}

-- the effect of a write of control_mode (class 70, attribute 4), whose value may be refused
abbrev pub at_mode_form : Result ControlMode WriteFault → World → Outcome
at_mode_form (Err fault) w = outcome_of_refusal (fault_code fault) w
at_mode_form (Ok mode) w = at_mode mode w

-- the effect of a write to the switch; only its mode can be written
abbrev pub at_control : Option ControlAttribute → Data → World → Outcome
at_control (Some attribute.ControlMode) value w = at_mode_form (mode_form value) w
at_control _ value w = outcome_of_refusal ReadWriteDenied w

-- the effect of a setting of a limiter
unfoldable pub at_setting : Which → Setting → World → Outcome
at_setting which setting w = record {
  world = with_limiter_state which
      (with_settings (with_setting setting (limiter_state_of which w).settings) (limiter_state_of
      which w)) w;
  code = Success;
}

-- the effect of a write of a limiter's setting, whose value may be refused; an attribute that
-- cannot be written gives read-write-denied
abbrev pub at_setting_form : Which → Result (Option Setting) WriteFault → World → Outcome
at_setting_form which (Err fault) w = outcome_of_refusal (fault_code fault) w
at_setting_form which (Ok None) w = outcome_of_refusal ReadWriteDenied w
at_setting_form which (Ok (Some setting)) w = at_setting which setting w

-- the effect of a write to a limiter, of an attribute other than its list of group ids
abbrev pub at_limiter : Which → Option LimiterAttribute → Data → World → Outcome
at_limiter which None value w = outcome_of_refusal ReadWriteDenied w
at_limiter which (Some attribute) value w = at_setting_form which (setting_of attribute value) w

-- the effect of a write to a schedule, of an attribute other than its list of entries
unfoldable pub at_schedule : ScheduleNumber → Option ScheduleAttribute → Data → World → Outcome
at_schedule which attribute value w = record {
  world = record w {
    schedules = with_schedule which
        (schedule_after_write attribute value (schedule_of which w.schedules)) w.schedules;
  };
  code = schedule_code attribute value;
}

-- the effect of a write of a list: the decoded list replaces it, or the write is refused
abbrev pub at_list : WrittenList → Result Parts ResultCode → World → Outcome
at_list list (Err code) w = outcome_of_refusal code w
at_list list (Ok parts) w = record { world = with_list list parts w; code = Success }

-- the effect of a write to an object, of an attribute that is not a list
abbrev pub at_plain : Instance → ℕ → Data → World → Outcome
at_plain Association number value w = outcome_of_refusal ReadWriteDenied w
at_plain DeviceName number value w = outcome_of_refusal ReadWriteDenied w
at_plain (Register which) number value w = outcome_of_refusal ReadWriteDenied w
at_plain ScriptTable number value w = outcome_of_refusal ReadWriteDenied w
at_plain (Schedule which) number value w = at_schedule which (schedule_attribute number) value w
at_plain DisconnectControl number value w = at_control (control_attribute number) value w
at_plain (Limiter which) number value w = at_limiter which (attribute_numbered number) value w

-- the effect of a write to an object, of a list or of another attribute
abbrev pub at_attribute : Option WrittenList → Instance → ℕ → Data → World → Outcome
at_attribute None instance number value w = at_plain instance number value w
at_attribute (Some list) instance number value w = at_list list (list_read list value) w

-- the effect of a write to an object, of the attribute with this number
unfoldable pub at_write : Instance → ℕ → Data → World → Outcome
at_write instance number value w =
    at_attribute (list_numbered instance number) instance number value w

-- the effect of a write, or the refusal if the object was not reached
abbrev pub write_at : Result Instance ResultCode → ℕ → Data → World → Outcome
write_at (Err refusal) number value w = outcome_of_refusal refusal w
write_at (Ok instance) number value w = at_write instance number value w

-- the effect of a client's SET
unfoldable pub at_set : Level → AttrRef → Bool → Data → World → Outcome
at_set level attr selected value w =
    write_at (target_of attr.name attr.class (rights_of level attr).write selected) attr.number
    value w
