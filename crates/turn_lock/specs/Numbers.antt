-- The numbers of the faults.
use Rattle.std.specs.Prelude.{ℕ}
use Rattle.turn_lock.specs.declared.call_fault.CallFault.{CallFault}
use Rattle.turn_lock.specs.declared.call_fault.CallFault.TheVariants as fault

-- the number that a fault is converted to by `u8::from`
abbrev pub fault_number : CallFault → ℕ
fault_number fault.Memory = 1
fault_number fault.Exhausted = 2
fault_number fault.Journal = 3
