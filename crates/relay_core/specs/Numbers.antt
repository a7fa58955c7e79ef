-- The numbers of the faults.
use Rattle.std.specs.Prelude.{ℕ}
use Rattle.relay_core.specs.declared.opening.OpeningFault.{OpeningFault}
use Rattle.relay_core.specs.declared.opening.OpeningFault.TheVariants as fault

-- the number that a fault is converted to by `u8::from`
abbrev pub fault_number : OpeningFault → ℕ
fault_number fault.Unfit = 1
fault_number fault.Memory = 2
