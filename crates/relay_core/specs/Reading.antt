-- The result of a client's GET, for every object and attribute of the meter (IEC 62056-5-3).
use Rattle.std.specs.Prelude.{ℕ, Bool, List, Result, Ok, Err, ◌==◌, map, Option, Some, None, if◌then◌else◌}
use Rattle.action_schedule.specs.Attributes.{attribute_numbered as schedule_attribute}
use Rattle.action_schedule.specs.Writing.{data_at as schedule_data}
use Rattle.cosem_axdr.specs.declared.value.Data.{Data}
use Rattle.cosem_axdr.specs.declared.value.Data.TheVariants.{OctetString}
use Rattle.cosem_names.specs.declared.name.AttrRef.{AttrRef}
use Rattle.cosem_names.specs.declared.level.Level.{Level}
use Rattle.cosem_names.specs.declared.objects.Instance.{Instance}
use Rattle.cosem_names.specs.declared.objects.Instance.TheVariants.{Association, DeviceName, Register, ScriptTable, Schedule, DisconnectControl, Limiter}
use Rattle.cosem_names.specs.declared.result_code.ResultCode.{ResultCode}
use Rattle.cosem_names.specs.declared.result_code.ResultCode.TheVariants.{ReadWriteDenied}
use Rattle.cosem_names.specs.declared.service.AttributeSelection.{AttributeSelection}
use Rattle.cosem_names.specs.declared.service.GetResult.{GetResult}
use Rattle.cosem_names.specs.declared.service.GetResult.TheVariants.{Value, Code}
use Rattle.cosem_names.specs.ObjectList.{object_list_of}
use Rattle.cosem_names.specs.Objects.{rights_of}
use Rattle.disconnect_control.specs.Attributes.{attribute_numbered as control_attribute, data_at as control_data}
use Rattle.limiter_attributes.specs.Attributes.{attribute_numbered as limiter_attribute}
use Rattle.limiter_attributes.specs.Writing.{data_at as limiter_data}
use Rattle.relay_core.specs.Access.{target_of}
use Rattle.relay_core.specs.Limiters.{limiter_state_of}
use Rattle.relay_core.specs.Registers.{attribute_numbered as register_attribute, data_at as register_data}
use Rattle.relay_core.specs.Schedules.{schedule_of}
use Rattle.relay_core.specs.World.{World}
use Rattle.script_steps.specs.Writing.{data_of}

-- the result of reading an attribute that the object may have; any other number is ReadWriteDenied
abbrev pub result_of_attribute : {A : Type 0} → (A → Data) → Option A → GetResult
result_of_attribute as_data None = Code ReadWriteDenied
result_of_attribute as_data (Some attribute) = Value (as_data attribute)

-- the result of reading an object whose only attribute besides the logical name is the second
abbrev pub read_only_value : ℕ → Data → GetResult
read_only_value number value = if number == 2 then Value value else Code ReadWriteDenied

-- the result of reading an attribute other than the logical name, for a client of this level (IEC
-- 62056-6-2, classes 1, 3, 9, 15, 22, 70 and 71)
abbrev pub own_value_in : Level → Instance → ℕ → World → GetResult
own_value_in level Association number w = read_only_value number (object_list_of level)
own_value_in level DeviceName number w = read_only_value number (OctetString w.device)
own_value_in level (Register which) number w =
    result_of_attribute (λ attribute. register_data attribute (limiter_state_of which w).last)
    (register_attribute number)
own_value_in level ScriptTable number w = read_only_value number (data_of w.scripts)
own_value_in level (Schedule which) number w =
    result_of_attribute (λ attribute. schedule_data attribute (schedule_of which w.schedules))
    (schedule_attribute number)
own_value_in level DisconnectControl number w =
    result_of_attribute (λ attribute. control_data attribute w.control) (control_attribute number)
own_value_in level (Limiter which) number w =
    result_of_attribute (λ attribute. limiter_data which attribute
    (limiter_state_of which w).settings w.moment)
    (limiter_attribute number)

-- the result of reading an attribute of an object; attribute 1 is the logical name in every class
-- (IEC 62056-6-2)
unfoldable pub value_in : Level → Instance → AttrRef → World → GetResult
value_in level instance attr w = if attr.number == 1 then Value (OctetString attr.name.0)
    else own_value_in level instance attr.number w

-- the result of a read, or the refusal if the object was not reached
abbrev pub read_at : Level → Result Instance ResultCode → AttrRef → World → GetResult
read_at level (Err refusal) attr w = Code refusal
read_at level (Ok instance) attr w = value_in level instance attr w

-- the result of a client's GET
unfoldable pub get_result : Level → AttrRef → Bool → World → GetResult
get_result level attr selected w =
    read_at level (target_of attr.name attr.class (rights_of level attr).read selected) attr w

-- the results of a client's GET with list, all of the same world
abbrev pub get_results : Level → List AttributeSelection → World → List GetResult
get_results level items w = map (λ item. get_result level item.attr item.selected w) items
