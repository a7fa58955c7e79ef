-- Why a written value is refused, and which fault of several values is reported: a wrong type
-- anywhere before any wrong value. That order is a rule of this meter.
use Rattle.std.specs.Prelude.{Bool, true, false, List, Result, Ok, Err, is_err, if◌then◌else◌}
use Rattle.std.specs.List.{list_any, filter_map}
use Rattle.std.specs.Result.{result_ok}
use Rattle.cosem_names.specs.declared.result_code.ResultCode.{ResultCode}
use Rattle.cosem_names.specs.declared.result_code.ResultCode.TheVariants.{TypeUnmatched, OtherReason}
use Rattle.cosem_names.specs.declared.write_fault.WriteFault.{WriteFault}
use Rattle.cosem_names.specs.declared.write_fault.WriteFault.TheVariants.{Unmatched, Value, Memory}

-- the result of a write that has this fault (IEC 62056-5-3, Data-Access-Result); `Memory` is not a
-- fault of the written value
abbrev pub fault_code : WriteFault → ResultCode
fault_code Unmatched = TypeUnmatched
fault_code Value = OtherReason
fault_code Memory = OtherReason

-- whether the value has a wrong type
abbrev pub is_unmatched : {A : Type 0} → Result A WriteFault → Bool
is_unmatched (Ok x) = false
is_unmatched (Err Unmatched) = true
is_unmatched (Err Value) = false
is_unmatched (Err Memory) = false

-- the fault of several values: a wrong type of any before any other fault
unfoldable pub fault_of_items : {A B : Type 0} → (A → Result B WriteFault) → List A
    → Result (Unit {0}) WriteFault
fault_of_items read items =
    if list_any (λ item. is_unmatched (read item)) items then Err Unmatched
    else if list_any (λ item. is_err (read item)) items then Err Value
    else Ok tt

-- the values of the items that have no fault
abbrev pub values : {A B : Type 0} → (A → Result B WriteFault) → List A → List B
values read items = filter_map (λ item. result_ok (read item)) items
