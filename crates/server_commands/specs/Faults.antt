-- The fault of the program for each fault of `apdu` and `hex`, and of the plan of `serve`.
use Rattle.program.specs.declared.fault.Fault.{Fault}
use Rattle.program.specs.declared.fault.Fault.TheVariants as program
use Rattle.server_commands.specs.declared.messages.CommandFault.{CommandFault}
use Rattle.server_commands.specs.declared.messages.CommandFault.TheVariants as fault
use Rattle.server_commands.specs.declared.plan_fault.PlanFault.{PlanFault}
use Rattle.server_commands.specs.declared.plan_fault.PlanFault.TheVariants as plan
use Rattle.session_io.specs.declared.fault.TextFault.{TextFault}
use Rattle.session_io.specs.declared.fault.TextFault.TheVariants as text

-- `Input` if the input or an option is not valid; a failed read, a failed write or out of memory
-- keep their own faults
abbrev pub fault_of : CommandFault → Fault
fault_of fault.TooLong = program.Input
fault_of (fault.Line number why) = program.Input
fault_of (fault.Digit character) = program.Input
fault_of fault.OddDigits = program.Input
fault_of fault.Password = program.Input
fault_of fault.Device = program.Input
fault_of fault.Read = program.Read
fault_of fault.Write = program.Write
fault_of fault.Memory = program.Memory

-- the fault of a text that was not decoded
abbrev pub input_fault_of : TextFault → CommandFault
input_fault_of (text.Digit character) = fault.Digit character
input_fault_of text.OddDigits = fault.OddDigits
input_fault_of text.TooLong = fault.TooLong
input_fault_of text.Read = fault.Read
input_fault_of text.Memory = fault.Memory

-- `Input` if an option or the trace at the head of the input is not valid
abbrev pub plan_fault_of : PlanFault → Fault
plan_fault_of plan.Password = program.Input
plan_fault_of plan.Device = program.Input
plan_fault_of plan.Depth = program.Input
plan_fault_of (plan.Line number) = program.Input
plan_fault_of plan.Journal = program.Input
plan_fault_of plan.TooLong = program.Input
plan_fault_of plan.Read = program.Read
plan_fault_of plan.Memory = program.Memory
