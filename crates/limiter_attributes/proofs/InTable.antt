-- A limiter's attributes in the table of the meter's objects.
use Rattle.std.proofs.Common.{refl}
use Rattle.cosem_names.specs.Objects.{object_of, class_attribute_of, attribute_of, rights_of}
use Rattle.cosem_names.specs.declared.objects.Which.{Which}
use Rattle.cosem_names.specs.declared.objects.Which.TheVariants.{Import, Export}
use Rattle.limiter_attributes.specs.Law.{IsInTable, IsMonitored}
use Rattle.limiter_attributes.specs.declared.attribute.LimiterAttribute.{LimiterAttribute}
use Rattle.limiter_attributes.specs.declared.attribute.LimiterAttribute.TheVariants.{MonitoredValue, ThresholdActive, ThresholdNormal, ThresholdEmergency, MinOverThresholdDuration, MinUnderThresholdDuration, EmergencyProfile, EmergencyProfileGroupIdList, EmergencyProfileActive, Actions}

-- each attribute is in the table, with its access rights
pub attribute_in_table : (which : Which) (attribute : LimiterAttribute) → IsInTable which attribute
unfolding object_of class_attribute_of attribute_of rights_of
attribute_in_table Import MonitoredValue = record { public = refl; management = refl }
attribute_in_table Import ThresholdActive = record { public = refl; management = refl }
attribute_in_table Import ThresholdNormal = record { public = refl; management = refl }
attribute_in_table Import ThresholdEmergency = record { public = refl; management = refl }
attribute_in_table Import MinOverThresholdDuration = record { public = refl; management = refl }
attribute_in_table Import MinUnderThresholdDuration = record { public = refl; management = refl }
attribute_in_table Import EmergencyProfile = record { public = refl; management = refl }
attribute_in_table Import EmergencyProfileGroupIdList = record { public = refl; management = refl }
attribute_in_table Import EmergencyProfileActive = record { public = refl; management = refl }
attribute_in_table Import Actions = record { public = refl; management = refl }
attribute_in_table Export MonitoredValue = record { public = refl; management = refl }
attribute_in_table Export ThresholdActive = record { public = refl; management = refl }
attribute_in_table Export ThresholdNormal = record { public = refl; management = refl }
attribute_in_table Export ThresholdEmergency = record { public = refl; management = refl }
attribute_in_table Export MinOverThresholdDuration = record { public = refl; management = refl }
attribute_in_table Export MinUnderThresholdDuration = record { public = refl; management = refl }
attribute_in_table Export EmergencyProfile = record { public = refl; management = refl }
attribute_in_table Export EmergencyProfileGroupIdList = record { public = refl; management = refl }
attribute_in_table Export EmergencyProfileActive = record { public = refl; management = refl }
attribute_in_table Export Actions = record { public = refl; management = refl }

-- the monitored register is in the table
pub monitored_in_table : (which : Which) → IsMonitored which
unfolding object_of
monitored_in_table Import = record { named = refl; classed = refl }
monitored_in_table Export = record { named = refl; classed = refl }
