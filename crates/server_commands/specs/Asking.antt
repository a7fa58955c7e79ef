-- The faults of a command line.
use Rattle.std.specs.Prelude.{Bool, true, false}
use Rattle.program.specs.declared.fault.Fault.{Fault}
use Rattle.program.specs.declared.fault.Fault.TheVariants.{Input, Read, Write, Memory}

-- whether a fault is one of reading the command line: that or a file that it names is wrong, the
-- file could not be read, a text could not be printed, or out of memory
abbrev pub is_of_asking : Fault → Bool
is_of_asking Input = true
is_of_asking Read = true
is_of_asking Write = true
is_of_asking Memory = true
is_of_asking _ = false
