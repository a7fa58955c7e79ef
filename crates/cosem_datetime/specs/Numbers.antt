-- The public numbers of the faults of dates and times.
use Rattle.std.specs.Prelude.{ℕ}
use Rattle.cosem_datetime.specs.declared.fault.PatternFault.{PatternFault}
use Rattle.cosem_datetime.specs.declared.fault.PatternFault.TheVariants as fault

-- the public number of a fault of reading a date or time, as `u8::from` returns it
abbrev pub fault_number : PatternFault → ℕ
fault_number fault.Length = 1
fault_number fault.Range = 2
fault_number fault.SeasonMonth = 3
