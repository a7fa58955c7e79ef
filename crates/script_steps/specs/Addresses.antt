-- The address that a listed step names: its service, and the attribute or method of an object (IEC
-- 62056-6-2, class 9, scripts).
use Rattle.std.specs.Prelude.{ℤ, pos, ℕ, Bool, Option, List, [], ◌∷◌, ◌==◌, ◌&&◌, find}
use Rattle.std.specs.Ordering.{int_eq}
use Rattle.std.specs.Str.{bytes_eq}
use Rattle.cosem_names.specs.Table.{class_id, obis}
use Rattle.cosem_names.specs.declared.objects.Which.{Which}
use Rattle.cosem_names.specs.declared.objects.Which.TheVariants.{Import, Export}
use Rattle.limiter_attributes.specs.Attributes.{limiter_name}
use Rattle.script_steps.specs.declared.action.Action.{Action}
use Rattle.script_steps.specs.declared.action.Action.TheVariants.{Mode, Normal, Emergency, MinOver, MinUnder, Profile, Disconnect, Reconnect}
use Rattle.script_steps.specs.declared.action.Address.{Address}
use Rattle.script_steps.specs.declared.step.Step.{Step}
use Rattle.script_steps.specs.declared.step.Step.TheVariants as step

-- the service_id of a step that writes an attribute (class 9, scripts)
abbrev pub write_attribute : ℕ
write_attribute = 1

-- the service_id of a step that executes a method (class 9, scripts)
abbrev pub execute_method : ℕ
execute_method = 2

-- a write to an attribute of the disconnect control (class 70, 0.0.96.3.10.255)
abbrev pub attribute_of : ℤ → Address
attribute_of index =
    record {
      service = write_attribute;
      class = class_id 70;
      name = obis 0 0 96 3 10 255;
      index = index;
    }

-- an execution of a method of the disconnect control (class 70, 0.0.96.3.10.255)
abbrev pub method_of : ℤ → Address
method_of index = record {
  service = execute_method;
  class = class_id 70;
  name = obis 0 0 96 3 10 255;
  index = index;
}

-- a write to an attribute of a limiter (class 71)
abbrev pub limiter_attribute_of : Which → ℤ → Address
limiter_attribute_of which index =
    record {
      service = write_attribute;
      class = class_id 71;
      name = limiter_name which;
      index = index;
    }

-- the address that a step of this action names
abbrev pub address_of : Action → Address
address_of Mode = attribute_of (pos 4)  -- control_mode
address_of (Normal which) = limiter_attribute_of which (pos 4)  -- threshold_normal
address_of (Emergency which) = limiter_attribute_of which (pos 5)  -- threshold_emergency
address_of (MinOver which) = limiter_attribute_of which (pos 6)  -- min_over_threshold_duration
address_of (MinUnder which) = limiter_attribute_of which (pos 7)  -- min_under_threshold_duration
address_of (Profile which) = limiter_attribute_of which (pos 8)  -- emergency_profile
address_of Disconnect = method_of (pos 1)  -- remote_disconnect
address_of Reconnect = method_of (pos 2)  -- remote_reconnect

-- whether two addresses have the same service, class, name and index
abbrev pub is_address : Address → Address → Bool
is_address one other =
    one.service == other.service &&
    (one.class.0 == other.class.0 &&
    (bytes_eq one.name.0 other.name.0 && int_eq one.index other.index))

-- the actions of the listed steps: every action is one (`each_step_is_listed`)
abbrev pub actions : List Action
actions =
    Mode
    ∷ Normal Import ∷ Emergency Import ∷ MinOver Import ∷ MinUnder Import ∷ Profile Import
    ∷ Normal Export ∷ Emergency Export ∷ MinOver Export ∷ MinUnder Export ∷ Profile Export
    ∷ Disconnect ∷ Reconnect ∷ []

-- the action of the listed step that names this address
unfoldable pub action_at : Address → Option Action
action_at address = find (λ action. is_address (address_of action) address) actions

-- the action of a step
abbrev pub action_of : Step → Action
action_of (step.WriteMode mode) = Mode
action_of (step.WriteNormal which watts) = Normal which
action_of (step.WriteEmergency which watts) = Emergency which
action_of (step.WriteMinOver which seconds) = MinOver which
action_of (step.WriteMinUnder which seconds) = MinUnder which
action_of (step.WriteProfile which profile) = Profile which
action_of step.Disconnect = Disconnect
action_of step.Reconnect = Reconnect
