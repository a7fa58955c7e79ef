-- A limiter's attributes in the table of the meter's objects.
use Rattle.std.specs.Prelude.{◌≡◌, Bool, true, false, Some, option_map}
use Rattle.cosem_names.specs.Objects.{object_of, rights_of}
use Rattle.cosem_names.specs.Table.{class_id}
use Rattle.cosem_names.specs.declared.level.Level.TheVariants.{Public, Management}
use Rattle.cosem_names.specs.declared.name.AttrRef.{AttrRef}
use Rattle.cosem_names.specs.declared.objects.Instance.TheVariants.{Register}
use Rattle.cosem_names.specs.declared.objects.Which.{Which}
use Rattle.limiter_attributes.specs.Attributes.{limiter_name, number_of}
use Rattle.limiter_attributes.specs.Writing.{register_name}
use Rattle.limiter_attributes.specs.declared.attribute.LimiterAttribute.{LimiterAttribute}
use Rattle.limiter_attributes.specs.declared.attribute.LimiterAttribute.TheVariants.{MonitoredValue, ThresholdActive, ThresholdNormal, ThresholdEmergency, MinOverThresholdDuration, MinUnderThresholdDuration, EmergencyProfile, EmergencyProfileGroupIdList, EmergencyProfileActive, Actions}

-- an attribute of a limiter, as a GET or a SET names it
abbrev pub reference : Which → LimiterAttribute → AttrRef
reference which attribute =
    record { class = class_id 71; name = limiter_name which; number = number_of attribute }

-- whether an attribute may be written
abbrev pub is_written : LimiterAttribute → Bool
is_written MonitoredValue = false
is_written ThresholdActive = false
is_written ThresholdNormal = true
is_written ThresholdEmergency = true
is_written MinOverThresholdDuration = true
is_written MinUnderThresholdDuration = true
is_written EmergencyProfile = true
is_written EmergencyProfileGroupIdList = true
is_written EmergencyProfileActive = false
is_written Actions = true

-- whether the public client has no access to the attribute, and the management client may read it,
-- and may write it if it may be written
pub record IsInTable (which : Which) (attribute : LimiterAttribute) : Type 0 where
  pub public : rights_of Public (reference which attribute) ≡ record { read = false; write = false }
  pub management : rights_of Management (reference which attribute)
      ≡ record { read = true; write = is_written attribute }

-- whether a limiter monitors the register of its direction: the object table has that logical name,
-- with class 3
pub record IsMonitored (which : Which) : Type 0 where
  pub named : option_map (λ row. row.instance) (object_of (register_name which))
      ≡ Some (Register which)
  pub classed : option_map (λ row. row.class) (object_of (register_name which)) ≡ Some (class_id 3)
