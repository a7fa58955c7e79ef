-- The number of each fault.
use Rattle.std.specs.Prelude.{ℕ}
use Rattle.xdlms_apdu.specs.declared.fault.ApduFault.{ApduFault}
use Rattle.xdlms_apdu.specs.declared.fault.ApduFault.TheVariants as fault

-- the number that a fault is converted to by `u8::from`
abbrev pub fault_number : ApduFault → ℕ
fault_number fault.UnknownTag = 1
fault_number fault.UnknownForm = 2
fault_number fault.Unreadable = 3
fault_number fault.Memory = 4
