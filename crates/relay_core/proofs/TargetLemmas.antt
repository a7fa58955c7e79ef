-- A request's rights are those of the class that it names: where the object is of another class,
-- the request is refused before its rights count.
use Rattle.std.proofs.Common.{◌≡◌, ◌==◌, not, ℕ, Bool, true, false, if◌then◌else◌, Option, Some}
use Rattle.std.proofs.Common.{None, option_and_then, Ok, Err, refl, sym, ap}
use Rattle.std.proofs.lemmas.Bool.{eqb-true}
use Rattle.cosem_names.specs.Objects.{object_of, attribute_of, method_of, class_attribute_of}
use Rattle.cosem_names.specs.Objects.{class_method_of, rights_to, rights_of, class_rights_of}
use Rattle.cosem_names.specs.Objects.{execution_to, may_execute_of, class_execution_of}
use Rattle.cosem_names.specs.declared.level.Level.{Level}
use Rattle.cosem_names.specs.declared.name.AttrRef.{AttrRef}
use Rattle.cosem_names.specs.declared.name.ClassId.{ClassId}
use Rattle.cosem_names.specs.declared.name.MethodRef.{MethodRef}
use Rattle.cosem_names.specs.declared.objects.Object.{Object}
use Rattle.cosem_names.specs.declared.result_code.ResultCode.TheVariants.{ObjectClassInconsistent}
use Rattle.cosem_names.specs.declared.result_code.ResultCode.TheVariants.{ReadWriteDenied}
use Rattle.cosem_names.specs.declared.result_code.ResultCode.TheVariants.{ScopeOfAccessViolated}
use Rattle.relay_core.specs.Access.{target_in, target_of}

-- the row of an object that is of a class
abbrev row_in : {R : Type 0} → (ClassId → Option R) → ClassId → Option Object → Option R
row_in rows class object = option_and_then (λ (o : Object).
    if o.class.0 == class.0 then rows o.class else None) object

-- the first refusal is the same, whether rights are asked of the class or of the object
by_class : {R : Type 0} (rows : ClassId → Option R) (allows : Option R → Bool) (object : Option
    Object) (class : ClassId) (selected : Bool)
    → target_in object class (allows (rows class)) selected
    ≡ target_in object class (allows (row_in rows class object)) selected
by_class rows allows None class selected = refl
by_class rows allows (Some object) class selected =
    by_sameness (object.class.0 == class.0) refl
  where
    by_sameness : (same : Bool) → (object.class.0 == class.0) ≡ same
        → (if not same then Err ObjectClassInconsistent
        else if not (allows (rows class)) then Err ReadWriteDenied
        else if selected then Err ScopeOfAccessViolated
        else Ok object.instance)
        ≡ (if not same then Err ObjectClassInconsistent
        else if not (allows (if same then rows object.class else None)) then Err ReadWriteDenied
        else if selected then Err ScopeOfAccessViolated
        else Ok object.instance)
    by_sameness false e = refl
    by_sameness true e =
        ap (λ (n : ℕ). if not (allows (rows (record { 0 = n }))) then Err ReadWriteDenied
        else if selected then Err ScopeOfAccessViolated
        else Ok object.instance) (sym (eqb-true object.class.0 class.0 e))

pub read_by_class : (level : Level) (attr : AttrRef) (selected : Bool)
    → target_of attr.name attr.class (class_rights_of level attr.class attr.number).read selected
    ≡ target_of attr.name attr.class (rights_of level attr).read selected
unfolding target_of class_rights_of rights_of attribute_of
read_by_class level attr selected =
    by_class (λ class. class_attribute_of class attr.number)
    (λ row. (rights_to level row).read) (object_of attr.name) attr.class selected

pub write_by_class : (level : Level) (attr : AttrRef) (selected : Bool)
    → target_of attr.name attr.class (class_rights_of level attr.class attr.number).write selected
    ≡ target_of attr.name attr.class (rights_of level attr).write selected
unfolding target_of class_rights_of rights_of attribute_of
write_by_class level attr selected =
    by_class (λ class. class_attribute_of class attr.number)
    (λ row. (rights_to level row).write) (object_of attr.name) attr.class selected

pub execution_by_class : (level : Level) (method : MethodRef)
    → target_of method.name method.class (class_execution_of level method.class method.number) false
    ≡ target_of method.name method.class (may_execute_of level method) false
unfolding target_of class_execution_of may_execute_of method_of
execution_by_class level method =
    by_class (λ class. class_method_of class method.number) (execution_to level)
    (object_of method.name) method.class false
