-- The object_list of the association as a client of a level reads it: the table as Data (IEC
-- 62056-6-2, Association LN).
use Rattle.std.specs.Prelude.{ℕ, Bool, true, false, List, [], ◌∷◌, ◌==◌, filter, map}
use Rattle.std.specs.Int.{w8, cast_signed}
use Rattle.cosem_axdr.specs.declared.value.Data.{Data}
use Rattle.cosem_axdr.specs.declared.value.Data.TheVariants.{Null, Integer, Unsigned, LongUnsigned, Enum, OctetString}
use Rattle.cosem_names.specs.declared.level.Level.{Level}
use Rattle.cosem_names.specs.declared.name.ClassId.{ClassId}
use Rattle.cosem_names.specs.declared.objects.Access.{Access}
use Rattle.cosem_names.specs.declared.objects.Access.TheVariants.{NoAccess, ReadOnly, ReadAndWrite}
use Rattle.cosem_names.specs.declared.objects.Attribute.{Attribute}
use Rattle.cosem_names.specs.declared.objects.Method.{Method}
use Rattle.cosem_names.specs.declared.objects.Object.{Object}
use Rattle.cosem_names.specs.Forms.{array_with, structure_with}
use Rattle.cosem_names.specs.Objects.{access_by, execution_by}
use Rattle.cosem_names.specs.Table as table

-- the number of an attribute's access mode
abbrev pub access_number : Access → ℕ
access_number NoAccess = 0
access_number ReadOnly = 1
access_number ReadAndWrite = 3

-- the number of a method's access mode
abbrev pub execution_number : Bool → ℕ
execution_number false = 0
execution_number true = 1

-- the entry of an attribute: its number, its access mode for the level, and no selectors
unfoldable pub attribute_entry : Level → Attribute → Data
attribute_entry level row = structure_with
    (Integer (cast_signed w8 row.number) ∷ Enum (access_number (access_by level row)) ∷ Null ∷ [])

-- the entry of a method: its number and its access mode for the level
unfoldable pub method_entry : Level → Method → Data
method_entry level row = structure_with
    (Integer (cast_signed w8 row.number) ∷ Enum (execution_number (execution_by level row)) ∷ [])

-- the entries of a class's attributes among rows, in their order
unfoldable pub attribute_entries : Level → ClassId → List Attribute → List Data
attribute_entries level class rows =
    map (attribute_entry level) (filter (λ row. row.class.0 == class.0) rows)

-- the entries of a class's methods among rows, in their order
unfoldable pub method_entries : Level → ClassId → List Method → List Data
method_entries level class rows =
    map (method_entry level) (filter (λ row. row.class.0 == class.0) rows)

-- the access rights to the attributes and methods of a class that rows have
unfoldable pub access_rights : Level → ClassId → List Attribute → List Method → Data
access_rights level class attributes methods = structure_with
    (array_with (attribute_entries level class attributes)
    ∷ array_with (method_entries level class methods) ∷ [])

-- the entry of an object: its class, version and logical name, and the access rights of its class
unfoldable pub object_entry : Level → List Attribute → List Method → Object → Data
object_entry level attributes methods row = structure_with
    (LongUnsigned row.class.0 ∷ Unsigned row.version ∷ OctetString row.name.0
    ∷ access_rights level row.class attributes methods ∷ [])

-- the entries of objects, in their order
unfoldable pub object_entries : Level → List Attribute → List Method → List Object → List Data
object_entries level attributes methods rows = map (object_entry level attributes methods) rows

-- the list of all objects
unfoldable pub object_list_of : Level → Data
object_list_of level =
    array_with (object_entries level table.attributes table.methods table.objects)
