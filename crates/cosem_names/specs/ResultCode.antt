-- Result codes as numbers in an APDU, and read from one (IEC 62056-5-3).
use Rattle.std.specs.Prelude.{ℕ, Option, Some, None, ◌==◌, if◌then◌else◌}
use Rattle.wire_bytes.specs.ByteFormats.{byte}
use Rattle.wire_bytes.specs.Format.{Format, narrow}
use Rattle.cosem_names.specs.declared.result_code.ResultCode.{ResultCode}
use Rattle.cosem_names.specs.declared.result_code.ResultCode.TheVariants.{Success, HardwareFault, TemporaryFailure, ReadWriteDenied, ObjectUndefined, ObjectClassInconsistent, TypeUnmatched, ScopeOfAccessViolated, NoLongGetInProgress, NoLongSetInProgress, DataBlockNumberInvalid, OtherReason}

-- the number of a result in an APDU (IEC 62056-5-3, Data-Access-Result and Action-Result)
abbrev pub code_of : ResultCode → ℕ
code_of Success = 0
code_of HardwareFault = 1
code_of TemporaryFailure = 2
code_of ReadWriteDenied = 3
code_of ObjectUndefined = 4
code_of ObjectClassInconsistent = 9
code_of TypeUnmatched = 12
code_of ScopeOfAccessViolated = 13
code_of NoLongGetInProgress = 16
code_of NoLongSetInProgress = 18
code_of DataBlockNumberInvalid = 19
code_of OtherReason = 250

-- the result of a number
unfoldable pub result_of : ℕ → Option ResultCode
result_of n = if n == 0 then Some Success else if n == 1 then Some HardwareFault else if n == 2
    then Some TemporaryFailure
    else if n == 3 then Some ReadWriteDenied else if n == 4 then Some ObjectUndefined else if n == 9
    then Some ObjectClassInconsistent
    else if n == 12 then Some TypeUnmatched else if n == 13 then Some ScopeOfAccessViolated
    else if n == 16 then Some NoLongGetInProgress
    else if n == 18 then Some NoLongSetInProgress else if n == 19 then Some DataBlockNumberInvalid
    else if n == 250 then Some OtherReason else None

-- the byte of a result; the fault if it is the number of none
abbrev pub result : {F : Type 0} → F → Format ℕ F ResultCode
result fault = narrow fault result_of code_of (byte fault)
