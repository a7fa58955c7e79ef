-- A step names an entry of the meter's object table that the management client may write or
-- execute. A step that writes a limiter names the attribute that it writes.
use Rattle.std.specs.Prelude.{◌≡◌, Bool, true, ◌==◌, ◌&&◌, ◌||◌, Some, option_map}
use Rattle.std.specs.Int.{w8, cast_unsigned}
use Rattle.cosem_names.specs.Objects.{object_of, rights_of, may_execute_of}
use Rattle.cosem_names.specs.declared.level.Level.TheVariants.{Management}
use Rattle.cosem_names.specs.declared.name.AttrRef.{AttrRef}
use Rattle.cosem_names.specs.declared.name.MethodRef.{MethodRef}
use Rattle.cosem_names.specs.declared.objects.Instance.{Instance}
use Rattle.cosem_names.specs.declared.objects.Instance.TheVariants.{DisconnectControl, Limiter}
use Rattle.limiter_attributes.specs.Law.{reference}
use Rattle.limiter_attributes.specs.declared.attribute.LimiterAttribute.TheVariants.{ThresholdNormal, ThresholdEmergency, MinOverThresholdDuration, MinUnderThresholdDuration, EmergencyProfile}
use Rattle.script_steps.specs.Addresses.{write_attribute, execute_method, address_of, action_at, action_of}
use Rattle.script_steps.specs.declared.action.Address.{Address}
use Rattle.script_steps.specs.declared.step.Step.{Step}
use Rattle.script_steps.specs.declared.step.Step.TheVariants.{WriteMode, WriteNormal, WriteEmergency, WriteMinOver, WriteMinUnder, WriteProfile, Disconnect, Reconnect}

-- the object that a step acts on
abbrev pub instance_of : Step → Instance
instance_of (WriteMode mode) = DisconnectControl
instance_of (WriteNormal which watts) = Limiter which
instance_of (WriteEmergency which watts) = Limiter which
instance_of (WriteMinOver which seconds) = Limiter which
instance_of (WriteMinUnder which seconds) = Limiter which
instance_of (WriteProfile which profile) = Limiter which
instance_of Disconnect = DisconnectControl
instance_of Reconnect = DisconnectControl

-- the address that a step names
abbrev pub address_named_by : Step → Address
address_named_by step = address_of (action_of step)

-- the attribute that an address names, as a SET names it
abbrev pub attribute_at : Address → AttrRef
attribute_at address =
    record { class = address.class; name = address.name; number = cast_unsigned w8 address.index }

-- the method that an address names, as an ACTION names it
abbrev pub method_at : Address → MethodRef
method_at address = record {
  class = address.class;
  name = address.name;
  number = cast_unsigned w8 address.index;
}

-- whether a step writes an attribute; otherwise it executes a method
abbrev pub is_write : Step → Bool
is_write step = (address_named_by step).service == write_attribute

-- the attribute that a step names
abbrev pub attribute_named : Step → AttrRef
attribute_named step = attribute_at (address_named_by step)

-- the method that a step names
abbrev pub method_named : Step → MethodRef
method_named step = method_at (address_named_by step)

-- whether the management client may write the attribute, or execute the method
abbrev pub is_allowed : Address → Bool
is_allowed address =
    (address.service == write_attribute && (rights_of Management (attribute_at address)).write)
    || (address.service == execute_method && may_execute_of Management (method_at address))

-- whether the object table has the step's object, with its logical name and class, and management
-- may do there what the step does
pub record IsInTable (step : Step) : Type 0 where
  pub named : option_map (λ row. row.instance) (object_of (address_named_by step).name)
      ≡ Some (instance_of step)
  pub classed : option_map (λ row. row.class) (object_of (address_named_by step).name)
      ≡ Some (address_named_by step).class
  pub allowed : is_allowed (address_named_by step) ≡ true

-- whether a step that writes a limiter names the attribute that it writes
abbrev pub IsNamed : Step → Type 0
IsNamed (WriteMode mode) = Unit {0}
IsNamed (WriteNormal which watts) =
    attribute_at (address_named_by (WriteNormal which watts)) ≡ reference which ThresholdNormal
IsNamed (WriteEmergency which watts) =
    attribute_at (address_named_by (WriteEmergency which watts))
    ≡ reference which ThresholdEmergency
IsNamed (WriteMinOver which seconds) =
    attribute_at (address_named_by (WriteMinOver which seconds))
    ≡ reference which MinOverThresholdDuration
IsNamed (WriteMinUnder which seconds) =
    attribute_at (address_named_by (WriteMinUnder which seconds))
    ≡ reference which MinUnderThresholdDuration
IsNamed (WriteProfile which profile) =
    attribute_at (address_named_by (WriteProfile which profile)) ≡ reference which EmergencyProfile
IsNamed Disconnect = Unit {0}
IsNamed Reconnect = Unit {0}

-- whether a step is listed: its address is that of its action, and of no other
abbrev pub IsListed : Step → Type 0
IsListed step = action_at (address_named_by step) ≡ Some (action_of step)
