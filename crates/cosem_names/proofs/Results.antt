-- The byte of a result is lawful: each result is found by its number.
use Rattle.std.proofs.Common.{◌≡◌, Some, refl}
use Rattle.wire_bytes.specs.ByteFormats.{IsByte, byte}
use Rattle.wire_bytes.proofs.ByteLaws.{byte_lawful}
use Rattle.wire_bytes.proofs.Lawful.{IsLawful, narrow_lawful}
use Rattle.cosem_names.specs.ResultCode.{code_of, result_of, result}
use Rattle.cosem_names.specs.declared.result_code.ResultCode.{ResultCode}
use Rattle.cosem_names.specs.declared.result_code.ResultCode.TheVariants.{Success}

-- each result has a number of its own: each case computes
pub result_of-code_of : (code : ResultCode) → result_of (code_of code) ≡ Some code
unfolding result_of
result_of-code_of Success = refl
result_of-code_of code = refl

-- the byte of a result
pub result_lawful : {F : Type 0} (fault : F) → IsLawful IsByte (result fault)
result_lawful fault = narrow_lawful fault result_of code_of (byte fault) result_of-code_of
    (λ n. tt) (byte_lawful fault)
