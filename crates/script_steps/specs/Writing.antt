-- The value of a script table when read (IEC 62056-6-2, class 9, scripts): an array of scripts,
-- each a structure of its identifier and an array of its steps.
use Rattle.std.specs.Prelude.{pos, List, [], ◌∷◌, map}
use Rattle.cosem_axdr.specs.declared.value.Data.{Data}
use Rattle.cosem_axdr.specs.declared.value.Data.TheVariants.{OctetString, DoubleLongUnsigned, LongUnsigned, Enum, Integer}
use Rattle.cosem_names.specs.Forms.{array_with, structure_with}
use Rattle.disconnect_control.specs.Transitions.{mode_number}
use Rattle.limiter_attributes.specs.Writing.{profile_data}
use Rattle.script_steps.specs.Addresses.{address_of, action_of}
use Rattle.script_steps.specs.declared.action.Address.{Address}
use Rattle.script_steps.specs.declared.step.Script.{Script}
use Rattle.script_steps.specs.declared.step.Step.{Step}
use Rattle.script_steps.specs.declared.step.Step.TheVariants.{WriteMode, WriteNormal, WriteEmergency, WriteMinOver, WriteMinUnder, WriteProfile, Disconnect, Reconnect}

-- the parameter of a step; that of a method is the integer 0
abbrev pub parameter_of : Step → Data
parameter_of (WriteMode mode) = Enum (mode_number mode)
parameter_of (WriteNormal which watts) = DoubleLongUnsigned watts
parameter_of (WriteEmergency which watts) = DoubleLongUnsigned watts
parameter_of (WriteMinOver which seconds) = DoubleLongUnsigned seconds
parameter_of (WriteMinUnder which seconds) = DoubleLongUnsigned seconds
parameter_of (WriteProfile which profile) = profile_data profile
parameter_of Disconnect = Integer (pos 0)
parameter_of Reconnect = Integer (pos 0)

-- a step with this address and parameter
abbrev pub addressed_step : Address → Data → Data
addressed_step address parameter =
    structure_with (Enum address.service ∷ LongUnsigned address.class.0 ∷ OctetString address.name.0
    ∷ Integer address.index ∷ parameter ∷ [])

-- the value of a step: a structure of service_id, class_id, logical_name, index and parameter
unfoldable pub step_data : Step → Data
step_data step = addressed_step (address_of (action_of step)) (parameter_of step)

-- the value of a script: a structure of script_identifier and the array of its steps
unfoldable pub script_data : Script → Data
script_data script =
    structure_with (LongUnsigned script.identifier ∷ array_with (map step_data script.steps) ∷ [])

-- the value of the attribute scripts (class 9, attribute 2): the array of all scripts
unfoldable pub data_of : List Script → Data
data_of scripts = array_with (map script_data scripts)
