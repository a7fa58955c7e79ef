-- Which reads and writes never allocate, so that they always have a reply.
use Rattle.std.specs.Prelude.{ℕ, Bool, true, false, Result, Ok, Err, ◌==◌, ◌||◌, ◌&&◌, not, Option, Some, None}
use Rattle.action_schedule.specs.Attributes.{attribute_numbered as schedule_attribute, is_plain as is_plain_schedule}
use Rattle.cosem_names.specs.declared.name.AttrRef.{AttrRef}
use Rattle.cosem_names.specs.declared.level.Level.{Level}
use Rattle.cosem_names.specs.declared.objects.Instance.{Instance}
use Rattle.cosem_names.specs.declared.objects.Instance.TheVariants.{Association, DeviceName, Register, ScriptTable, Schedule, DisconnectControl, Limiter}
use Rattle.cosem_names.specs.declared.result_code.ResultCode.{ResultCode}
use Rattle.cosem_names.specs.Objects.{rights_of}
use Rattle.limiter_attributes.specs.Attributes.{attribute_numbered as limiter_attribute, is_plain as is_plain_limiter}
use Rattle.relay_core.specs.declared.parts.WrittenList.{WrittenList}
use Rattle.relay_core.specs.Access.{target_of}
use Rattle.relay_core.specs.Moving.{list_numbered}
use Rattle.relay_core.specs.Registers.{attribute_numbered as register_attribute, is_plain as is_plain_register}

-- whether a read of an attribute never allocates; a number that the object does not have is refused
-- without allocating
abbrev pub is_plain_where : {A : Type 0} → (A → Bool) → Option A → Bool
is_plain_where plain None = true
is_plain_where plain (Some attribute) = plain attribute

-- whether the value of an attribute is a boolean, an enum or a number, and so needs no memory
abbrev pub is_plain : Instance → ℕ → Bool
is_plain Association number = not (number == 1 || number == 2)
is_plain DeviceName number = not (number == 1 || number == 2)
is_plain (Register which) number =
    not (number == 1) && is_plain_where is_plain_register (register_attribute number)
is_plain ScriptTable number = not (number == 1 || number == 2)
is_plain (Schedule which) number =
    not (number == 1) && is_plain_where is_plain_schedule (schedule_attribute number)
is_plain DisconnectControl number = not (number == 1)
is_plain (Limiter which) number =
    not (number == 1) && is_plain_where is_plain_limiter (limiter_attribute number)

-- whether a read never allocates, once the object was sought
abbrev pub is_plain_at : Result Instance ResultCode → ℕ → Bool
is_plain_at (Err refusal) number = true
is_plain_at (Ok instance) number = is_plain instance number

-- whether a read never allocates: it is refused, or its value is plain
unfoldable pub reads_plainly : Level → AttrRef → Bool → Bool
reads_plainly level attr selected =
    is_plain_at (target_of attr.name attr.class (rights_of level attr).read selected) attr.number

-- whether a write of an attribute stores no list
abbrev pub is_no_list : Option WrittenList → Bool
is_no_list None = true
is_no_list (Some list) = false

-- whether a write of this attribute of an object never allocates, because it stores no list
abbrev pub writes_plainly_in : Instance → ℕ → Bool
writes_plainly_in instance number = is_no_list (list_numbered instance number)

-- whether a write never allocates, once the object was sought
abbrev pub writes_plainly_at : Result Instance ResultCode → ℕ → Bool
writes_plainly_at (Err refusal) number = true
writes_plainly_at (Ok instance) number = writes_plainly_in instance number

-- whether a write never allocates: it is refused before its value is decoded, or its attribute is
-- no list
unfoldable pub writes_plainly : Level → AttrRef → Bool → Bool
writes_plainly level attr selected =
    writes_plainly_at (target_of attr.name attr.class (rights_of level attr).write selected)
    attr.number
