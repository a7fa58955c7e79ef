-- The exit status of a program that failed.
use Rattle.std.specs.Prelude.{ℕ}
use Rattle.program.specs.declared.fault.Fault.{Fault}
use Rattle.program.specs.declared.fault.Fault.TheVariants.{Input, Read, Write, Listen, Memory, Turns}

-- the exit status of a fault: 2 if the input is wrong, 3 if a stream or socket failed, 4 if out of
-- memory or out of turns (the turns that a lock can give its threads are used up)
abbrev pub status_of : Fault → ℕ
status_of Input = 2
status_of Read = 3
status_of Write = 3
status_of Listen = 3
status_of Memory = 4
status_of Turns = 4
