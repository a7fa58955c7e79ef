-- The numbers of the faults.
use Rattle.std.specs.Prelude.{ℕ}
use Rattle.xdlms_blocks.specs.declared.fault.BlockFault.{BlockFault}
use Rattle.xdlms_blocks.specs.declared.fault.BlockFault.TheVariants as fault

-- the number that a fault is converted to by `u8::from`
abbrev pub fault_number : BlockFault → ℕ
fault_number fault.NoTransfer = 1
fault_number fault.WrongNumber = 2
fault_number fault.TooLong = 3
fault_number fault.Memory = 4
