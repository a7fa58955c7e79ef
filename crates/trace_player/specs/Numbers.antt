-- The number of each fault.
use Rattle.std.specs.Prelude.{ℕ}
use Rattle.trace_player.specs.declared.fault.PlayFault.{PlayFault}
use Rattle.trace_player.specs.declared.fault.PlayFault.TheVariants as fault

-- the number that a fault is converted to by `u8::from`
abbrev pub fault_number : PlayFault → ℕ
fault_number (fault.Line line) = 1
fault_number fault.TooLong = 2
fault_number fault.Read = 3
fault_number fault.Write = 4
fault_number fault.Memory = 5
