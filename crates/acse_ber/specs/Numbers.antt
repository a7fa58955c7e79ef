-- The public numbers of the faults of reading APDUs.
use Rattle.std.specs.Prelude.{ℕ}
use Rattle.acse_ber.specs.declared.fault.AcseFault.{AcseFault}
use Rattle.acse_ber.specs.declared.fault.AcseFault.TheVariants as fault

-- the public number of a fault of reading an APDU, as `u8::from` returns it
abbrev pub fault_number : AcseFault → ℕ
fault_number fault.Unreadable = 1
fault_number fault.Memory = 2
