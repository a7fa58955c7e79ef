-- A limiter's logical name, and the numbers of its attributes after that (IEC 62056-6-2, class 71).
use Rattle.std.specs.Prelude.{ℕ, Bool, true, false, List, [], ◌∷◌, ◌==◌, find, Option}
use Rattle.cosem_names.specs.Table.{obis}
use Rattle.cosem_names.specs.declared.name.Obis.{Obis}
use Rattle.cosem_names.specs.declared.objects.Which.{Which}
use Rattle.cosem_names.specs.declared.objects.Which.TheVariants.{Import, Export}
use Rattle.limiter_attributes.specs.declared.attribute.LimiterAttribute.{LimiterAttribute}
use Rattle.limiter_attributes.specs.declared.attribute.LimiterAttribute.TheVariants.{MonitoredValue, ThresholdActive, ThresholdNormal, ThresholdEmergency, MinOverThresholdDuration, MinUnderThresholdDuration, EmergencyProfile, EmergencyProfileGroupIdList, EmergencyProfileActive, Actions}

-- the logical name of the limiter of import or of export
abbrev pub limiter_name : Which → Obis
limiter_name Import = obis 0 0 17 0 0 255
limiter_name Export = obis 0 1 17 0 0 255

-- the number of an attribute in class 71
abbrev pub number_of : LimiterAttribute → ℕ
number_of MonitoredValue = 2
number_of ThresholdActive = 3
number_of ThresholdNormal = 4
number_of ThresholdEmergency = 5
number_of MinOverThresholdDuration = 6
number_of MinUnderThresholdDuration = 7
number_of EmergencyProfile = 8
number_of EmergencyProfileGroupIdList = 9
number_of EmergencyProfileActive = 10
number_of Actions = 11

-- all attributes after the logical name; the contract of `u8::from` states that each is found by
-- its number
abbrev pub attributes : List LimiterAttribute
attributes =
    MonitoredValue ∷ ThresholdActive ∷ ThresholdNormal ∷ ThresholdEmergency
    ∷ MinOverThresholdDuration ∷ MinUnderThresholdDuration
    ∷ EmergencyProfile ∷ EmergencyProfileGroupIdList ∷ EmergencyProfileActive ∷ Actions ∷ []

-- the attribute of class 71 with this number, if the number is from 2 to 11
unfoldable pub attribute_numbered : ℕ → Option LimiterAttribute
attribute_numbered number = find (λ attribute. number_of attribute == number) attributes

-- whether an attribute is a number or a boolean, so that reading it does not allocate
abbrev pub is_plain : LimiterAttribute → Bool
is_plain MonitoredValue = false
is_plain ThresholdActive = true
is_plain ThresholdNormal = true
is_plain ThresholdEmergency = true
is_plain MinOverThresholdDuration = true
is_plain MinUnderThresholdDuration = true
is_plain EmergencyProfile = false
is_plain EmergencyProfileGroupIdList = false
is_plain EmergencyProfileActive = true
is_plain Actions = false
