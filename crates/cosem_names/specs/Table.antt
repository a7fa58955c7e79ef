-- The meter's objects, and what each client may do with their attributes and methods. Classes,
-- versions, attributes and methods are those of the Blue Book (IEC 62056-6-2), logical names follow
-- the value groups A to F (IEC 62056-6-1). Which objects there are, and the rights, are rules of
-- this product.
use Rattle.std.specs.Prelude.{ℕ, Bool, true, false, List, [], ◌∷◌}
use Rattle.cosem_names.specs.declared.name.ClassId.{ClassId}
use Rattle.cosem_names.specs.declared.name.Obis.{Obis}
use Rattle.cosem_names.specs.declared.objects.Access.{Access}
use Rattle.cosem_names.specs.declared.objects.Access.TheVariants.{NoAccess, ReadOnly, ReadAndWrite}
use Rattle.cosem_names.specs.declared.objects.Attribute.{Attribute}
use Rattle.cosem_names.specs.declared.objects.Instance.{Instance}
use Rattle.cosem_names.specs.declared.objects.Instance.TheVariants.{Association, DeviceName, Register, ScriptTable, Schedule, DisconnectControl, Limiter}
use Rattle.cosem_names.specs.declared.objects.Method.{Method}
use Rattle.cosem_names.specs.declared.objects.Object.{Object}
use Rattle.cosem_names.specs.declared.objects.ScheduleNumber.TheVariants.{First, Second, Third, Fourth}
use Rattle.cosem_names.specs.declared.objects.Which.TheVariants.{Import, Export}

-- an interface class, by its class_id
abbrev pub class_id : ℕ → ClassId
class_id number = record { 0 = number }

-- interface class 1, Data
abbrev pub data_class : ClassId
data_class = class_id 1

-- interface class 3, Register
abbrev pub register : ClassId
register = class_id 3

-- interface class 9, Script table
abbrev pub script_table : ClassId
script_table = class_id 9

-- interface class 15, Association LN
abbrev pub association_ln : ClassId
association_ln = class_id 15

-- interface class 22, Single action schedule
abbrev pub single_action_schedule : ClassId
single_action_schedule = class_id 22

-- interface class 70, Disconnect control
abbrev pub disconnect_control : ClassId
disconnect_control = class_id 70

-- interface class 71, Limiter
abbrev pub limiter : ClassId
limiter = class_id 71

-- a logical name: an OBIS code, by its value groups A to F
abbrev pub obis : ℕ → ℕ → ℕ → ℕ → ℕ → ℕ → Obis
obis a b c d e f = record { 0 = a ∷ b ∷ c ∷ d ∷ e ∷ f ∷ [] }

-- an object: its class, version and logical name
abbrev pub object : Instance → ClassId → ℕ → Obis → Object
object instance class version logical_name =
    record { instance = instance; class = class; version = version; name = logical_name }

-- an attribute of a class: its number, and the access of the public and of the management client
abbrev pub attribute : ClassId → ℕ → Access → Access → Attribute
attribute class number public management =
    record { class = class; number = number; public = public; management = management }

-- a method of a class: its number, and whether the public and the management client may execute it
abbrev pub method : ClassId → ℕ → Bool → Bool → Method
method class number public management =
    record { class = class; number = number; public = public; management = management }

-- the objects, in the order of the object list: class, version and logical name
abbrev pub objects : List Object
objects =
    object Association association_ln 1 (obis 0 0 40 0 0 255) ∷
    object DeviceName data_class 0 (obis 0 0 42 0 0 255) ∷
    object (Register Import) register 0 (obis 1 0 1 7 0 255) ∷
    object (Register Export) register 0 (obis 1 0 2 7 0 255) ∷
    object ScriptTable script_table 0 (obis 0 0 10 0 106 255) ∷
    object (Schedule First) single_action_schedule 0 (obis 0 0 15 0 1 255) ∷
    object (Schedule Second) single_action_schedule 0 (obis 0 1 15 0 1 255) ∷
    object (Schedule Third) single_action_schedule 0 (obis 0 2 15 0 1 255) ∷
    object (Schedule Fourth) single_action_schedule 0 (obis 0 3 15 0 1 255) ∷
    object DisconnectControl disconnect_control 0 (obis 0 0 96 3 10 255) ∷
    object (Limiter Import) limiter 0 (obis 0 0 17 0 0 255) ∷
    object (Limiter Export) limiter 0 (obis 0 1 17 0 0 255) ∷
    []

-- the attributes of the classes: number, and access of the public and of the management client
abbrev pub attributes : List Attribute
attributes =
    attribute association_ln 1 ReadOnly ReadOnly ∷  -- logical_name
    attribute association_ln 2 ReadOnly ReadOnly ∷  -- object_list
    attribute data_class 1 ReadOnly ReadOnly ∷  -- logical_name
    attribute data_class 2 ReadOnly ReadOnly ∷  -- value
    attribute register 1 ReadOnly ReadOnly ∷  -- logical_name
    attribute register 2 ReadOnly ReadOnly ∷  -- value
    attribute register 3 ReadOnly ReadOnly ∷  -- scaler_unit
    attribute script_table 1 ReadOnly ReadOnly ∷  -- logical_name
    attribute script_table 2 NoAccess ReadAndWrite ∷  -- scripts
    attribute single_action_schedule 1 ReadOnly ReadOnly ∷  -- logical_name
    attribute single_action_schedule 2 NoAccess ReadAndWrite ∷  -- executed_script
    attribute single_action_schedule 3 NoAccess ReadAndWrite ∷  -- type
    attribute single_action_schedule 4 NoAccess ReadAndWrite ∷  -- execution_time
    attribute disconnect_control 1 ReadOnly ReadOnly ∷  -- logical_name
    attribute disconnect_control 2 ReadOnly ReadOnly ∷  -- output_state
    attribute disconnect_control 3 ReadOnly ReadOnly ∷  -- control_state
    attribute disconnect_control 4 ReadOnly ReadAndWrite ∷  -- control_mode
    attribute limiter 1 ReadOnly ReadOnly ∷  -- logical_name
    attribute limiter 2 NoAccess ReadOnly ∷  -- monitored_value
    attribute limiter 3 NoAccess ReadOnly ∷  -- threshold_active
    attribute limiter 4 NoAccess ReadAndWrite ∷  -- threshold_normal
    attribute limiter 5 NoAccess ReadAndWrite ∷  -- threshold_emergency
    attribute limiter 6 NoAccess ReadAndWrite ∷  -- min_over_threshold_duration
    attribute limiter 7 NoAccess ReadAndWrite ∷  -- min_under_threshold_duration
    attribute limiter 8 NoAccess ReadAndWrite ∷  -- emergency_profile
    attribute limiter 9 NoAccess ReadAndWrite ∷  -- emergency_profile_group_id_list
    attribute limiter 10 NoAccess ReadOnly ∷  -- emergency_profile_active
    attribute limiter 11 NoAccess ReadAndWrite ∷  -- actions
    []

-- the methods of the classes: number, and whether the public and the management client may execute
-- it
abbrev pub methods : List Method
methods =
    method script_table 1 false true ∷  -- execute
    method disconnect_control 1 false true ∷  -- remote_disconnect
    method disconnect_control 2 false true ∷  -- remote_reconnect
    []
