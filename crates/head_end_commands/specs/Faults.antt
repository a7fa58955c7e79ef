-- The program's fault for each reason why the list of jobs was not read, or the passwords of its
-- jobs.
use Rattle.counted_io.specs.declared.fault.InputFault.{InputFault}
use Rattle.counted_io.specs.declared.fault.InputFault.TheVariants as input
use Rattle.head_end.specs.declared.fault.JobsFault.{JobsFault}
use Rattle.head_end.specs.declared.fault.JobsFault.TheVariants as jobs
use Rattle.head_end.specs.declared.passwords.PasswordsFault.{PasswordsFault}
use Rattle.head_end.specs.declared.passwords.PasswordsFault.TheVariants as passwords
use Rattle.head_end_commands.specs.declared.passwords.PasswordListFault.{PasswordListFault}
use Rattle.head_end_commands.specs.declared.passwords.PasswordListFault.TheVariants as list
use Rattle.program.specs.Passwords.{fault_of}
use Rattle.program.specs.declared.fault.Fault.{Fault}
use Rattle.program.specs.declared.fault.Fault.TheVariants as program

-- the fault if standard input was not read
abbrev pub input_fault : InputFault → Fault
input_fault input.TooLong = program.Input
input_fault input.Read = program.Read
input_fault input.Memory = program.Memory

-- the fault if a text is not a list of jobs
abbrev pub jobs_fault : JobsFault → Fault
jobs_fault (jobs.Line number) = program.Input
jobs_fault jobs.TooMany = program.Input
jobs_fault jobs.Memory = program.Memory

-- the fault if jobs have no passwords by a list of them
abbrev pub passwords_fault : PasswordsFault → Fault
passwords_fault (passwords.Line number) = program.Input
passwords_fault (passwords.Job place) = program.Input
passwords_fault passwords.Memory = program.Memory

-- the fault if the file of `--passwords` is not read, or is not a list of passwords
abbrev pub list_fault : PasswordListFault → Fault
list_fault (list.File fault) = fault_of fault
list_fault list.TooLong = program.Input
list_fault (list.Line number why) = program.Input
list_fault (list.Double number first) = program.Input
