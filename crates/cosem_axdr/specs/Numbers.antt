-- The public numbers of the faults of reading Data.
use Rattle.std.specs.Prelude.{ℕ}
use Rattle.cosem_axdr.specs.declared.fault.DataFault.{DataFault}
use Rattle.cosem_axdr.specs.declared.fault.DataFault.TheVariants as fault

-- the public number of a fault of reading a Data, as `u8::from` returns it
abbrev pub fault_number : DataFault → ℕ
fault_number fault.Truncated = 1
fault_number fault.UnknownTag = 2
fault_number fault.TooDeep = 3
fault_number fault.TooLong = 4
fault_number fault.Memory = 5
