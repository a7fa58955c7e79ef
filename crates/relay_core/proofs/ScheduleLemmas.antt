use Rattle.std.proofs.Common.{◌≡◌, Result, Ok, Err, refl}
use Rattle.cosem_names.specs.declared.write_fault.WriteFault.{WriteFault}
use Rattle.action_schedule.specs.Schedule.{answer_of}
use Rattle.relay_core.specs.Schedules.{write_code}

-- the result code of a write is that of decoding its value
pub code_of_answer : {A : Type 0} (r : Result A WriteFault) → write_code (answer_of r)
    ≡ write_code r
code_of_answer (Ok x) = refl
code_of_answer (Err fault) = refl
