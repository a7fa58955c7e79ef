-- The number of each fault.
use Rattle.std.specs.Prelude.{ℕ}
use Rattle.trace_words.specs.declared.fault.TraceFault.{TraceFault}
use Rattle.trace_words.specs.declared.fault.TraceFault.TheVariants as fault

-- the number that a fault is converted to by `u8::from`
abbrev pub fault_number : TraceFault → ℕ
fault_number (fault.Line line) = 1
fault_number fault.TooLong = 2
fault_number fault.Memory = 3
