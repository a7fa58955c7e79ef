-- The object that a request names, or the result code that refuses it.
use Rattle.std.specs.Prelude.{Bool, Option, Some, None, Result, Ok, Err, ◌==◌, not, if◌then◌else◌}
use Rattle.cosem_names.specs.declared.name.Obis.{Obis}
use Rattle.cosem_names.specs.declared.name.ClassId.{ClassId}
use Rattle.cosem_names.specs.declared.objects.Instance.{Instance}
use Rattle.cosem_names.specs.declared.objects.Object.{Object}
use Rattle.cosem_names.specs.declared.result_code.ResultCode.{ResultCode}
use Rattle.cosem_names.specs.declared.result_code.ResultCode.TheVariants.{ObjectUndefined, ObjectClassInconsistent, ReadWriteDenied, ScopeOfAccessViolated}
use Rattle.cosem_names.specs.Objects.{object_of}

-- The object with the name of a request, or the first refusal. `allowed`: the client has the right
-- to that attribute or method; `selected`: the request has selective access. The result codes are
-- those of IEC 62056-5-3, Data-Access-Result and Action-Result; their order is this meter's own.
abbrev pub target_in : Option Object → ClassId → Bool → Bool → Result Instance ResultCode
target_in None class allowed selected = Err ObjectUndefined
target_in (Some object) class allowed selected =
    if not (object.class.0 == class.0) then Err ObjectClassInconsistent
    else if not allowed then Err ReadWriteDenied
    else if selected then Err ScopeOfAccessViolated
    else Ok object.instance

-- The object that a request names, or the first refusal: of the name, the class, the right, and the
-- selective access.
unfoldable pub target_of : Obis → ClassId → Bool → Bool → Result Instance ResultCode
target_of name class allowed selected = target_in (object_of name) class allowed selected
