-- The fault of a player whose input could not be read to its end.
use Rattle.counted_io.specs.declared.fault.InputFault.{InputFault}
use Rattle.counted_io.specs.declared.fault.InputFault.TheVariants as input_fault
use Rattle.trace_player.specs.declared.fault.PlayFault.{PlayFault}
use Rattle.trace_player.specs.declared.fault.PlayFault.TheVariants as play_fault

-- the fault of a player, by why its input could not be read to its end
abbrev pub fault_of : InputFault → PlayFault
fault_of input_fault.TooLong = play_fault.TooLong
fault_of input_fault.Read = play_fault.Read
fault_of input_fault.Memory = play_fault.Memory
