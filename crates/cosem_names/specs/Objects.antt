-- The rows of the table that a request names, and what a client may do there (IEC 62056-6-2,
-- Association LN, access rights).
use Rattle.std.specs.Prelude.{ℕ, Bool, true, false, Option, None, ◌==◌, ◌&&◌, find, option_map, unwrap_or, option_and_then, if◌then◌else◌}
use Rattle.std.specs.Str.{bytes_eq}
use Rattle.cosem_names.specs.declared.level.Level.{Level}
use Rattle.cosem_names.specs.declared.level.Level.TheVariants.{Public, Management}
use Rattle.cosem_names.specs.declared.level.Rights.{Rights}
use Rattle.cosem_names.specs.declared.name.Obis.{Obis}
use Rattle.cosem_names.specs.declared.name.ClassId.{ClassId}
use Rattle.cosem_names.specs.declared.name.AttrRef.{AttrRef}
use Rattle.cosem_names.specs.declared.name.MethodRef.{MethodRef}
use Rattle.cosem_names.specs.declared.objects.Access.{Access}
use Rattle.cosem_names.specs.declared.objects.Access.TheVariants.{NoAccess, ReadOnly, ReadAndWrite}
use Rattle.cosem_names.specs.declared.objects.Attribute.{Attribute}
use Rattle.cosem_names.specs.declared.objects.Method.{Method}
use Rattle.cosem_names.specs.declared.objects.Object.{Object}
use Rattle.cosem_names.specs.Table.{objects, attributes, methods}

-- the row of the table with this logical name
unfoldable pub object_of : Obis → Option Object
object_of name = find (λ row. bytes_eq row.name.0 name.0) objects

-- the row of an attribute of a class
unfoldable pub class_attribute_of : ClassId → ℕ → Option Attribute
class_attribute_of class number =
    find (λ row. row.class.0 == class.0 && row.number == number) attributes

-- the row of a method of a class
unfoldable pub class_method_of : ClassId → ℕ → Option Method
class_method_of class number = find (λ row. row.class.0 == class.0 && row.number == number) methods

-- the row of an attribute that a request names: the object with that name must be of the class
-- named
unfoldable pub attribute_of : AttrRef → Option Attribute
attribute_of reference = option_and_then (λ object.
    if object.class.0 == reference.class.0 then class_attribute_of object.class reference.number
    else None)
    (object_of reference.name)

-- the row of a method that a request names: the object with that name must be of the class named
unfoldable pub method_of : MethodRef → Option Method
method_of reference = option_and_then (λ object.
    if object.class.0 == reference.class.0 then class_method_of object.class reference.number
    else None)
    (object_of reference.name)

-- the rights of an access mode
abbrev pub rights_by : Access → Rights
rights_by NoAccess = record { read = false; write = false }
rights_by ReadOnly = record { read = true; write = false }
rights_by ReadAndWrite = record { read = true; write = true }

-- the access mode of an attribute for a level
abbrev pub access_by : Level → Attribute → Access
access_by Public row = row.public
access_by Management row = row.management

-- whether a level may execute a method
abbrev pub execution_by : Level → Method → Bool
execution_by Public row = row.public
execution_by Management row = row.management

-- what a client of this level may do with an attribute
unfoldable pub rights_of : Level → AttrRef → Rights
rights_of level reference =
    unwrap_or (option_map (λ row. rights_by (access_by level row)) (attribute_of reference))
    (rights_by NoAccess)

-- whether a client of this level may execute a method
unfoldable pub may_execute_of : Level → MethodRef → Bool
may_execute_of level reference =
    unwrap_or (option_map (execution_by level) (method_of reference)) false

-- what a client of this level may do with the attribute of a row
abbrev pub rights_to : Level → Option Attribute → Rights
rights_to level row =
    unwrap_or (option_map (λ row. rights_by (access_by level row)) row) (rights_by NoAccess)

-- what a client of this level may do with an attribute of a class
unfoldable pub class_rights_of : Level → ClassId → ℕ → Rights
class_rights_of level class number = rights_to level (class_attribute_of class number)

-- whether a client of this level may execute the method of a row
abbrev pub execution_to : Level → Option Method → Bool
execution_to level row = unwrap_or (option_map (execution_by level) row) false

-- whether a client of this level may execute a method of a class
unfoldable pub class_execution_of : Level → ClassId → ℕ → Bool
class_execution_of level class number = execution_to level (class_method_of class number)
