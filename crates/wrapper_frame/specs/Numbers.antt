-- The number of each fault.
use Rattle.std.specs.Prelude.{ℕ}
use Rattle.wrapper_frame.specs.declared.fault.WrapperFault.{WrapperFault}
use Rattle.wrapper_frame.specs.declared.fault.WrapperFault.TheVariants as fault

-- the number that a fault is converted to by `u8::from`
abbrev pub fault_number : WrapperFault → ℕ
fault_number fault.Version = 1
fault_number fault.TooLong = 2
fault_number fault.Memory = 3
