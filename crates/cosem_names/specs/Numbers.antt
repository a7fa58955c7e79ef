-- The public numbers of the faults of written values.
use Rattle.std.specs.Prelude.{ℕ}
use Rattle.cosem_names.specs.declared.write_fault.WriteFault.{WriteFault}
use Rattle.cosem_names.specs.declared.write_fault.WriteFault.TheVariants as fault

-- the public number of a fault of writing a value, as `u8::from` returns it
abbrev pub fault_number : WriteFault → ℕ
fault_number fault.Unmatched = 1
fault_number fault.Value = 2
fault_number fault.Memory = 3
