-- The program's fault for each reason why a trace was not played.
use Rattle.program.specs.declared.fault.Fault.{Fault}
use Rattle.program.specs.declared.fault.Fault.TheVariants as program
use Rattle.trace_player.specs.declared.fault.PlayFault.{PlayFault}
use Rattle.trace_player.specs.declared.fault.PlayFault.TheVariants as fault

-- the program's fault: `Input` for a trace that is not valid or too long; a failed read, a failed
-- write and out of memory are passed on
abbrev pub fault_of : PlayFault → Fault
fault_of (fault.Line number) = program.Input
fault_of fault.TooLong = program.Input
fault_of fault.Read = program.Read
fault_of fault.Write = program.Write
fault_of fault.Memory = program.Memory
